use Rattle.std.proofs.Common.{◌≡◌, ◌≤◌, ◌++◌, take, drop, length}
use Rattle.shown_listings.specs.Ends.{has_empty, before_empty}
use Rattle.shown_listings.proofs.end_writer.find_end.Given as goal

-- No byte up to this one ends an empty line.
abbrev pub invariant-loop-index : goal.invariant-loop-index
invariant-loop-index l = record {
  within : l.index ≤ length l.bytes;
  has : has_empty l.fn.is_fresh l.bytes ≡ has_empty l.is_fresh (drop l.index l.bytes);
  before : before_empty l.fn.is_fresh l.bytes ≡ take l.index l.bytes ++ before_empty l.is_fresh (drop l.index l.bytes);
}
