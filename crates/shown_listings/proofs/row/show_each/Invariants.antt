use Rattle.std.proofs.Common.{◌≡◌, ◌++◌, map, take, drop}
use Rattle.shown_listings.specs.Rows.{shown_byte}
use Rattle.shown_listings.proofs.row.show_each.Given as goal

abbrev pub invariant-loop-byte : goal.invariant-loop-byte
invariant-loop-byte l = l.bytes ≡ map shown_byte (take l.byte-index l.initial.bytes) ++ drop l.byte-index l.initial.bytes
