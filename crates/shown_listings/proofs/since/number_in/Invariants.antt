use Rattle.std.proofs.Common.{◌≡◌, ◌≤◌, take, length}
use Rattle.std.specs.Str.Parse.{AllDigits, digits_value}
use Rattle.shown_listings.proofs.since.number_in.Given as goal

-- The bytes up to this one are digits, and tell this number.
abbrev pub invariant-loop-index : goal.invariant-loop-index
invariant-loop-index l = record {
  within : l.index ≤ length l.behind;
  digits : AllDigits 10 (take l.index l.behind);
  tells : digits_value 10 (take l.index l.behind) ≡ l.number;
}
