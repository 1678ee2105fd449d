use Rattle.std.proofs.Common.{refl}
use Rattle.simulator.specs.Simulated.{blanks, no_memory}
use Rattle.simulator.proofs.sim.set_store.Goals as goal

pub returns-in-Ok : goal.returns-in-Ok
returns-in-Ok c = let e = c.in-Ok.ensures in blanks (record { settled = e.blank; fuse = e.fuse; clock = e.clock; failures = e.failures })

pub returns-in-Err : goal.returns-in-Err
returns-in-Err c = no_memory refl
