use Rattle.simulator.specs.Simulated.{fuses}
use Rattle.simulator.proofs.sim.set_fuse.Goals as goal

pub returns : goal.returns
returns c = fuses c.fuse.ensures.fuse c.fuse.ensures.rest
