use Rattle.std.proofs.Common.{arith, rules, subst, ◌∙◌}
use Rattle.std.proofs.lemmas.Grind.{common_steps}
use Rattle.tracees.specs.Steps.{IsStep, Run}
use Rattle.tracees.specs.declared.step.Step.{Step}
use Rattle.tracees.specs.States.{state_of}
use Rattle.trace_port.proofs.Composed.{IsStill}
use Rattle.tracees.proofs.StepByStep.{runs_more, runs_all, step_numbered}
use Rattle.tracees.proofs.Runs.{Stands, each_moment, are_grown}
use Rattle.tracees.proofs.Carried.{are_carried}
use Rattle.tracees.proofs.Kept.{receipts_kept}
use Rattle.tracees.proofs.driving.drive.Goals as goal

pub loop-step-preserved : goal.loop-step-preserved
loop-step-preserved g c =
    let told = g.P.TracePort.told in
    let so_far = c.loop-step.invariant in
    let first = state_of g.P.TracePort g.K.Bookkeeping c.args.desks.now c.args.traced.now in
    let now = state_of g.P.TracePort g.K.Bookkeeping c.loop-step.desks c.loop-step.traced in
    let after = state_of g.P.TracePort g.K.Bookkeeping c.act-reply.new.desks c.act-reply.new.traced in
    let one = subst (λ (x : Step). IsStep told now after x c.act-reply.result) c.step-item.is c.act-reply.ensures.step.did in
    record {
      so_far = runs_more told first now after c.args.steps.now c.loop-step.step-index c.step-item.result c.loop-step.replies.items c.push_reserved.new.self.items c.act-reply.result
          c.loop-step-test.true so_far.so_far one c.push_reserved.ensures.items;
      numbered = step_numbered told now after _ c.act-reply.result c.act-reply.ensures.step.did so_far.numbered;
      loans = c.act-reply.ensures.step.loans ∙ so_far.loans;
      lenders = c.act-reply.ensures.step.lenders ∙ so_far.lenders;
      count = search (rules, common_steps);
      room = search (rules, common_steps);
    }

pub returns : goal.returns
returns g c =
    let told = g.P.TracePort.told in
    let laws = g.met.P.TracePort g.world.𝓛 g.world.𝓜 g.world.𝓡 (λ s h. h, λ p. p, λ f. f, λ p. p) in
    let stands : (p : g.row.P.Denot) → Stands (told p) = λ p. record { only_now = λ h image left. laws.only_now p image h left; counts_now = λ h t image within is. laws.counts_now p t image h within is } in
    let still : (p : g.row.P.Denot) → IsStill (told p) = λ p. (stands p).only_now in
    let so_far = c.loop-step.invariant in
    let first = state_of g.P.TracePort g.K.Bookkeeping c.args.desks.now c.args.traced.now in
    let last = state_of g.P.TracePort g.K.Bookkeeping c.loop-step.desks c.loop-step.traced in
    let steps = c.args.steps.now in
    let replies = c.loop-step.replies.items in
    let run : Run told first steps replies last = runs_all told first last steps c.loop-step.step-index replies (omega (arith, c.loop-step-test.false)) so_far.so_far in
    record {
      run = run;
      grown = are_grown told still first steps replies last run;
      carried = are_carried told first steps replies last run;
      moments = each_moment told stands first steps replies last;
      receipts = receipts_kept told still first steps replies last run;
      err = tt;
      loans = so_far.loans;
      lenders = so_far.lenders;
    }
