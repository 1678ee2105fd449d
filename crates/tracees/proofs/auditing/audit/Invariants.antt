use Rattle.std.proofs.Common.{take}
use Rattle.entry_codec.specs.Seen.{views}
use Rattle.tracees.specs.Agreement.{AllAgree}
use Rattle.tracees.proofs.auditing.audit.Given as goal

-- the receipts before this place agree
abbrev pub invariant-loop-receipt : goal.invariant-loop-receipt
invariant-loop-receipt l = AllAgree l.window.first (views l.window.entries.items) (take l.receipt-index l.receipts)
