use Rattle.std.proofs.Common.{Some, rules}
use Rattle.trace_times.proofs.OpenLemmas.{has_calls}
use Rattle.trace_times.proofs.open_calls.OpenCalls.put_first.Goals as goal

pub returns-clause-calls : goal.returns-clause-calls
returns-clause-calls g c =
    rw (← c.in_ok-process.ensures.items) (has_calls c.in_ok-process.process.items c.args.self.now.stacks c.insert.new.self (Some c.push.new.stack) _ c.in_ok-insert.ensures.updates (search rules))
