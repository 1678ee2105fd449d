use Rattle.std.proofs.Common.{ap, ◌∙◌}
use Rattle.std.proofs.KnownBytes.{Keeps-refl, prepend_known-nil}
use Rattle.commands.specs.Commands.{stopped, no_room}
use Rattle.faults.specs.declared.complaint.Complaint.TheVariants as complaints
use Rattle.script_runner.specs.declared.fault.SimFault.{SimFault}
use Rattle.commands.proofs.commands.serve_stream.Goals as goal

pub returns-in_default-clause-stopped : goal.returns-in_default-clause-stopped
returns-in_default-clause-stopped g c = no_room (Keeps-refl _) c.from.ensures

pub returns-in-Err-clause-stopped : goal.returns-in-Err-clause-stopped
returns-in-Err-clause-stopped g c =
    let reader = c.in-Ok.ensures in
    let told = c.of_stream.ensures in
    stopped c.in-Err.fault _ told.0 (rw (reader.capacity, reader.empty, reader.inner, prepend_known-nil (g.R.Read.remaining c.args.input)) at c.in-Err.ensures.err)
    (told.1 ∙ ap (λ (fault : SimFault). complaints.Fault fault told.0) c.from-in-Err.ensures)
