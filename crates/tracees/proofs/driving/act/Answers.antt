use Rattle.std.proofs.Common.{arith, refl, sym, subst, set}
use Rattle.tracees.specs.States.{state_of}
use Rattle.tracees.specs.Steps.{IsStep, emit_unknown}
use Rattle.tracees.specs.declared.step.Step.{Step}
use Rattle.tracees.specs.declared.step.Reply.TheVariants as replies
use Rattle.tracees.proofs.Acting.{no_tracee, emit_there}
use Rattle.tracees.proofs.driving.act.Goals as goal

pub returns-then-place-traced : goal.returns-then-place-traced
returns-then-place-traced g c =
    record {
      step = let s = state_of g.P.TracePort g.K.Bookkeeping c.args.desks.now c.args.traced.now in
          record {
            loans = refl;
            lenders = refl;
            did = subst (λ (x : Step). IsStep g.P.TracePort.told s s x replies.Unknown) (sym c.in-Emit.is)
                (emit_unknown (no_tracee g.P.TracePort g.K.Bookkeeping c.args.desks.now c.args.traced.now c.in-Emit.tracee (omega (arith, c.if-place-traced.true))) refl);
          };
    }

pub returns-else-place-traced : goal.returns-else-place-traced
returns-else-place-traced g c =
    record {
      step = let desks = c.args.desks.now in
          let traced = c.args.traced.now in
          let place = c.in-Emit.tracee in
          record {
            loans = refl;
            lenders = refl;
            did = subst (λ (x : Step). IsStep g.P.TracePort.told (state_of g.P.TracePort g.K.Bookkeeping desks traced) (state_of g.P.TracePort g.K.Bookkeeping desks (set traced place c.emit.new.self)) x c.from.result) (sym c.in-Emit.is)
                (emit_there g.P.TracePort g.K.Bookkeeping desks traced place c.index-traced-place.result c.emit.new.self c.in-Emit.event c.in-Emit.stamp c.emit.result c.from.result
                (omega (arith, c.if-place-traced.false)) c.emit.ensures.emits c.emit.ensures.desk c.emit.ensures.account c.from.ensures);
          };
    }
