use Rattle.std.proofs.Common.{◌==◌}
use Rattle.trace_times.specs.Opens.{back_in, open_calls}
use Rattle.trace_times.proofs.OpenLemmas.{changes_ended}
use Rattle.trace_times.proofs.open_calls.OpenCalls.come_back.Goals as goal

pub returns : goal.returns
returns c =
    let back = back_in (λ call. call.function == c.args.function) (open_calls c.args.self.now c.args.process.now) in
    (_, changes_ended c.args.self.now c.back_to.new.self c.account.new.self c.args.process.now back c.back_to.ensures _ c.account.ensures)
