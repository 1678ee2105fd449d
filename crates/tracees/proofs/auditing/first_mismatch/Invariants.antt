use Rattle.std.proofs.Common.{take}
use Rattle.entry_codec.specs.Seen.{views}
use Rattle.tracees.specs.Agreement.{AreAgreed}
use Rattle.tracees.proofs.auditing.first_mismatch.Given as goal

-- the entries before this place agree
abbrev pub invariant-loop-place : goal.invariant-loop-place
invariant-loop-place l = AreAgreed l.window.first (views l.window.entries.items) l.receipt.covered l.receipt.first (take l.place (views l.receipt.entries.items))
