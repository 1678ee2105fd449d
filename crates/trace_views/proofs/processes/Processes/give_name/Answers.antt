use Rattle.std.proofs.Common.{Some}
use Rattle.trace_views.proofs.NameLemmas.{holder_updated}
use Rattle.trace_views.proofs.processes.Processes.give_name.Goals as goal

pub returns-in-Ok-clause-names : goal.returns-in-Ok-clause-names
returns-in-Ok-clause-names c = λ other. rw (← c.in_ok-name.ensures.items, ← c.in_ok-process.ensures.items) (holder_updated c.in_ok-name.name.items c.args.self.now.names c.insert.new.self (Some c.in_ok-process.process) c.in-Ok.ensures.updates other)
