use Rattle.std.proofs.Common.{Err, ◌∙◌, ap}
use Rattle.recovery.specs.Stores.{is_blank}
use Rattle.wrap_port.specs.WrapSpecs.{wrap_seen}
use Rattle.script_runner.specs.PortOpenings.{begins}
use Rattle.simulator.specs.Simulated.{opens, opens_not}
use Rattle.simulator.proofs.sim.create_wrap.Goals as goal

pub returns-in-Ok-begin_create-clause-opens : goal.returns-in-Ok-begin_create-clause-opens
returns-in-Ok-begin_create-clause-opens c =
    let e = c.in-Ok-begin_create.ensures in
    let made = c.begin_create.ensures.creates in
    rw c.in-Ok.is (opens (begins (is_blank (e.created.blank tt)) (ap wrap_seen e.spec) c.in-Ok-begin_create.opening.longest (e.fits tt)) (made.any_moment tt, made.not_blank_stays tt) e.device.no_failure (e.created.calls tt))

pub returns-in-Err-clause-opens : goal.returns-in-Err-clause-opens
returns-in-Err-clause-opens c =
    let e = c.in-Err.ensures in
    let made = c.begin_create.ensures.creates in
    rw c.in-Ok.is (opens_not (made.any_moment tt, made.not_blank_stays tt) (e.refused, λ bad. c.begin_create.ensures.bad_spec.0 (c.in-Err.is ∙ ap Err bad)) e.device.failures)
