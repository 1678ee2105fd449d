use Rattle.std.proofs.KnownBytes.{Appends-nil}
use Rattle.std.proofs.Common.{refl}
use Rattle.faults.specs.Faults.{wipe_fault}
use Rattle.commands.specs.Commands.{refused}
use Rattle.commands.proofs.Naming.{told_moved}
use Rattle.commands.proofs.Commanding.{is_clear}
use Rattle.commands.proofs.commands.wipe.Goals as goal

pub returns-in-Ok-clause-clears : goal.returns-in-Ok-clause-clears
returns-in-Ok-clause-clears g c = λ h.
    let e = c.in-Ok.ensures in
    is_clear _ _ _ _ _ _ c.tell_cleared.result (record { is_due = e.there h; files = e.cleared h; closed = e.closed h; none_foreign = e.none_foreign h; at_most = e.at_most h }) c.tell_cleared.ensures.ok c.tell_cleared.ensures.cut c.tell_cleared.ensures.err

pub returns-in-Err-clause-clears : goal.returns-in-Err-clause-clears
returns-in-Err-clause-clears g c = λ h. refused c.in-Err.fault c.not_cleared.result (c.in-Err.ensures.why_not h) c.in-Err.ensures.refused c.clear.ensures.most (Appends-nil _)
    (told_moved c.args.files.now.place c.clear.new.self.place c.clear.new.self.store (wipe_fault c.in-Err.fault) (wipe_fault c.in-Err.fault) c.not_cleared.result c.clear.ensures.place refl c.not_cleared.ensures)
