use Rattle.std.proofs.Common.{[], ◌∷◌, sym, subst}
use Rattle.tracees.specs.Jobs.{Does, emits, hands, flushes, Fails, emit_fails, hand_fails, flush_fails}
use Rattle.tracees.specs.States.{seat_of}
use Rattle.tracees.specs.declared.job.Act.{Act}
use Rattle.tracees.specs.declared.job.ActFault.TheVariants as faults
use Rattle.tracees.proofs.working.do_act.Goals as goal

pub returns-in-Ok-clause-does : goal.returns-in-Ok-clause-does
returns-in-Ok-clause-does g c =
    let told = g.P.TracePort.told in
    let was = seat_of g.K.Bookkeeping c.args.traced.now in
    let is = seat_of g.K.Bookkeeping c.emit.new.self in
    subst (λ (x : Act). Does told was is x []) (sym c.in-Emit.is) (emits (record { emits = c.in-Ok.ensures.emits; desk = c.in-Ok.ensures.desk; sums = c.in-Ok.ensures.account }))

pub returns-in-Err-clause-fails : goal.returns-in-Err-clause-fails
returns-in-Err-clause-fails g c =
    let told = g.P.TracePort.told in
    let was = seat_of g.K.Bookkeeping c.args.traced.now in
    let is = seat_of g.K.Bookkeeping c.emit.new.self in
    subst (λ (x : Act). Fails told was is x (faults.Emit c.in-Err.fault)) (sym c.in-Emit.is) (emit_fails (record { emits = c.in-Err.ensures.emits; desk = c.in-Err.ensures.desk; sums = c.in-Err.ensures.account }))

pub returns-in-Ok-hand_over-clause-does : goal.returns-in-Ok-hand_over-clause-does
returns-in-Ok-hand_over-clause-does g c =
    let told = g.P.TracePort.told in
    let was = seat_of g.K.Bookkeeping c.args.traced.now in
    let is = seat_of g.K.Bookkeeping c.hand_over.new.traced in
    subst (λ (x : Act). Does told was is x (c.in-Ok-hand_over.receipt ∷ [])) (sym c.in-HandOver.is) (hands c.in-Ok-hand_over.ensures)

pub returns-in-Err-hand_over-clause-fails : goal.returns-in-Err-hand_over-clause-fails
returns-in-Err-hand_over-clause-fails g c =
    let told = g.P.TracePort.told in
    let was = seat_of g.K.Bookkeeping c.args.traced.now in
    let is = seat_of g.K.Bookkeeping c.hand_over.new.traced in
    subst (λ (x : Act). Fails told was is x (faults.Hand c.in-Err-hand_over.fault)) (sym c.in-HandOver.is) (hand_fails c.in-Err-hand_over.ensures)

pub returns-in-Ok-flush_for-clause-does : goal.returns-in-Ok-flush_for-clause-does
returns-in-Ok-flush_for-clause-does g c =
    let told = g.P.TracePort.told in
    let was = seat_of g.K.Bookkeeping c.args.traced.now in
    let is = seat_of g.K.Bookkeeping c.flush_for.new.traced in
    subst (λ (x : Act). Does told was is x (c.in-Ok-flush_for.receipt ∷ [])) (sym c.in-FlushFor.is) (flushes c.in-Ok-flush_for.ensures)

pub returns-in-Err-flush_for-clause-fails : goal.returns-in-Err-flush_for-clause-fails
returns-in-Err-flush_for-clause-fails g c =
    let told = g.P.TracePort.told in
    let was = seat_of g.K.Bookkeeping c.args.traced.now in
    let is = seat_of g.K.Bookkeeping c.flush_for.new.traced in
    subst (λ (x : Act). Fails told was is x (faults.Hand c.in-Err-flush_for.fault)) (sym c.in-FlushFor.is) (flush_fails c.in-Err-flush_for.ensures)
