use Rattle.std.proofs.Common.{◌≡◌, take}
use Rattle.std.specs.Prelude.{IsFalse}
use Rattle.json.specs.Print.{escape}
use Rattle.trace_text.proofs.escapes.has_escaped.Given as goal

-- the bytes so far are put as they are, unless one was found
abbrev pub invariant-loop-byte : goal.invariant-loop-byte
invariant-loop-byte l = IsFalse l.found → escape (take l.byte-index l.bytes) ≡ take l.byte-index l.bytes
