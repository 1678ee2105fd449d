use Rattle.std.proofs.Common.{None}
use Rattle.trace_views.proofs.NameLemmas.{holder_updated}
use Rattle.trace_views.proofs.processes.Processes.note_name.Goals as goal

pub returns-in-None-clause-names : goal.returns-in-None-clause-names
returns-in-None-clause-names c = λ other. rw (← c.in-Some.ensures, ← c.in-None.ensures) (holder_updated c.in-Some.name.now c.args.self.now.names c.remove-process.new.self None c.remove-process.ensures.updates other)
