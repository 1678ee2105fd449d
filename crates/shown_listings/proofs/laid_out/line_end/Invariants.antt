use Rattle.std.proofs.Common.{◌≤◌, take, length}
use Rattle.shown_listings.specs.Rows.{HasNoFeed}
use Rattle.shown_listings.proofs.laid_out.line_end.Given as goal

-- No byte up to this one is a line feed.
abbrev pub invariant-loop-index : goal.invariant-loop-index
invariant-loop-index l = record {
  within : l.index ≤ length l.bytes;
  other : HasNoFeed (take l.index l.bytes);
}
