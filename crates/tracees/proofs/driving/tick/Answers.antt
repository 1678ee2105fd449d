use Rattle.std.proofs.Common.{arith, refl}
use Rattle.tracees.specs.Steps.{tick_unknown}
use Rattle.tracees.proofs.Places.{map_stays}
use Rattle.tracees.proofs.Acting.{no_desk, tick_there}
use Rattle.tracees.proofs.driving.tick.Goals as goal

pub returns-then-place-desks : goal.returns-then-place-desks
returns-then-place-desks g c =
    record {
      step = record { loans = refl; lenders = refl; did = λ tracees. tick_unknown (no_desk g.P.TracePort g.K.Bookkeeping c.args.desks.now tracees c.args.desk (omega (arith, c.if-place-desks.true))) refl };
    }

pub returns : goal.returns
returns g c =
    record {
      step = record {
        loans = map_stays (λ d. d.port.ghost_name) c.args.desks.now c.args.desk c.index-desks-place.result c.tick.new.self (omega (arith, c.if-place-desks.false)) c.tick.ensures.ticks.name;
        lenders = map_stays (λ d. g.P.TracePort.lender d.port.now) c.args.desks.now c.args.desk c.index-desks-place.result c.tick.new.self (omega (arith, c.if-place-desks.false)) c.tick.ensures.ticks.same;
        did = λ tracees.
            tick_there g.P.TracePort g.K.Bookkeeping c.args.desks.now tracees c.args.desk c.args.now c.index-desks-place.result c.tick.new.self c.tick.result c.from.result (omega (arith, c.if-place-desks.false))
            c.tick.ensures.ticks.did c.tick.ensures.book c.from.ensures;
      };
    }
