use Rattle.std.proofs.Common.{refl}
use Rattle.std.proofs.KnownBytes.{Keeps-refl, prepend_known-nil}
use Rattle.simulator.specs.Simulated.{no_memory}
use Rattle.simulator.proofs.simulation.serve_sim.Goals as goal

pub returns-in_default : goal.returns-in_default
returns-in_default g c = (_, g.R.Read.remaining c.args.input, no_memory refl (Keeps-refl _), c.told.ensures)

pub returns : goal.returns
returns g c =
    let reader = c.in-Ok.ensures in
    (c.run_sim-done.result, _, rw (reader.capacity, reader.empty, reader.inner, prepend_known-nil (g.R.Read.remaining c.args.input)) at c.run_sim-done.ensures, c.told-2.ensures)
