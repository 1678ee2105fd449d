use Rattle.std.proofs.Common.{arith}
use Rattle.tracees.specs.Steps.{nobody}
use Rattle.tracees.proofs.Acting.{no_tracee, desk_there, no_desk_for}
use Rattle.tracees.proofs.driving.desk_of.Goals as goal

pub returns-then-place-traced-clause-none : goal.returns-then-place-traced-clause-none
returns-then-place-traced-clause-none g c none =
    nobody (no_tracee g.P.TracePort g.K.Bookkeeping c.args.desks.now c.args.traced.now c.args.tracee (omega (arith, c.if-place-traced.true)))

pub returns-then-desk-desks-clause-none : goal.returns-then-desk-desks-clause-none
returns-then-desk-desks-clause-none g c none =
    let traced = c.args.traced.now in
    let t = c.index-traced-place.result in
    no_desk_for g.P.TracePort g.K.Bookkeeping c.args.desks.now traced c.args.tracee c.desk-desk.result t (omega (arith, c.if-place-traced.false))
    (desk_there g.P.TracePort g.K.Bookkeeping traced c.args.tracee c.desk-desk.result t t (omega (arith, c.if-place-traced.false)) c.index-traced-place.is c.desk-desk.ensures) (omega (arith, c.if-desk-desks.true))

pub returns-clause-there : goal.returns-clause-there
returns-clause-there g c =
    record {
      there = omega (arith, c.if-place-traced.false);
      is = λ u. desk_there g.P.TracePort g.K.Bookkeeping c.args.traced.now c.args.tracee c.desk-desk.result c.index-traced-place.result u (omega (arith, c.if-place-traced.false)) c.index-traced-place.is c.desk-desk.ensures;
      here = omega (arith, c.if-desk-desks.false);
    }
