use Rattle.std.proofs.Common.{rules, ◌≡◌}
use Rattle.simulator.proofs.sim.run_sim.Goals as goal

pub returns : goal.returns
returns g c =
    let reads : c.reader-1.given.0 ≡ c.run_script.new.script.reader.now = search rules in
    rw reads (rw c.new-script.ensures.now at c.run_script.ensures.run)
