use Rattle.std.proofs.Common.{◌≡◌, ◌++◌, map, take, drop}
use Rattle.shown_listings.specs.Rows.{unfed_byte}
use Rattle.shown_listings.proofs.row.unfeed_each.Given as goal

abbrev pub invariant-loop-byte : goal.invariant-loop-byte
invariant-loop-byte l = l.bytes ≡ map unfed_byte (take l.byte-index l.initial.bytes) ++ drop l.byte-index l.initial.bytes
