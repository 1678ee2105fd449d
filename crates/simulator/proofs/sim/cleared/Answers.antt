use Rattle.simulator.specs.Simulated.{wipes, wipes_not}
use Rattle.simulator.proofs.sim.cleared.Goals as goal

pub returns-in-Ok : goal.returns-in-Ok
returns-in-Ok c = let e = c.in-Ok.ensures in wipes (record { calls = e.calls tt; no_failure = e.device.no_failure }) (e.reads tt) (e.wiped tt) (e.any_moment tt)

pub returns-in-Err : goal.returns-in-Err
returns-in-Err c = let e = c.in-Err.ensures in wipes_not e.device.failures e.device.at_most (e.any_moment tt)
