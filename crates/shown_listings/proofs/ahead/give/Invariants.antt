use Rattle.std.proofs.Common.{◌≤◌, ◌-◌, length, drop}
use Rattle.std.specs.Io.KnownBytes.{append_known, Keeps}
use Rattle.shown_listings.proofs.ahead.give.Given as goal

-- What the writer holds and what is left is what it held and what was left.
abbrev pub invariant-rest : goal.invariant-rest
invariant-rest g l = record {
  within : l.taken ≤ length l.bytes;
  kept : Keeps (append_known (g.W.Write.contents l.initial.out) (drop l.initial.taken l.bytes)) (append_known (g.W.Write.contents l.out) (drop l.taken l.bytes));
}

abbrev pub decreases-rest : goal.decreases-rest
decreases-rest g l = length l.bytes - l.taken
