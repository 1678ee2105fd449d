use Rattle.std.proofs.Common.{◌==◌, subst, sym}
use Rattle.trace_times.specs.Opens.{Changes, open_calls, with_return}
use Rattle.trace_times.proofs.OpenLemmas.{changes_ended, ended_stays}
use Rattle.trace_times.proofs.open_calls.OpenCalls.close.Goals as goal

pub returns-in_err-call : goal.returns-in_err-call
returns-in_err-call c =
    let left = with_return (λ call. call.function == c.args.function) (open_calls c.args.self.now c.args.process.now) in
    let stays = ended_stays left in
    (stays.0, subst (λ calls. Changes c.args.self.now c.leave.new.self c.args.process.now calls) (sym stays.1) c.leave.ensures.changes)

pub returns : goal.returns
returns c =
    let left = with_return (λ call. call.function == c.args.function) (open_calls c.args.self.now c.args.process.now) in
    (_, changes_ended c.args.self.now c.leave.new.self c.account.new.self c.args.process.now left c.leave.ensures.changes _ c.account.ensures)
