use Rattle.simulator.specs.Simulated.{fails_once}
use Rattle.simulator.proofs.sim.set_fail_once.Goals as goal

pub returns : goal.returns
returns c = fails_once c.fail_once.ensures.fuse c.fail_once.ensures.rest
