use Rattle.std.proofs.Common.{rules, ◌≡◌, refl}
use Rattle.std.proofs.KnownBytes.{Keeps-refl}
use Rattle.simulator.specs.Simulated.{no_memory}
use Rattle.simulator.proofs.Simulating.{is_run}
use Rattle.simulator.proofs.sim.run_script.Goals as goal

pub returns-in_default-clause-run : goal.returns-in_default-clause-run
returns-in_default-clause-run g c = no_memory refl (Keeps-refl _)

pub returns-clause-run : goal.returns-clause-run
returns-clause-run g c =
    let back : c.writer-1.given.0 ≡ c.finish-flushed.new.self.writer.now = search rules in
    let new = c.in-Ok.ensures in
    let simulates = rw (c.requires.any, c.requires.first, c.new-answers.ensures.now) at c.run_lines-done.ensures.simulates.did in
    rw (c.first_of.ensures, back) (is_run c.in-Ok.store _ c.run_lines-done.new.script.number _ _ _ _ _ c.run_lines-done.result c.finish-flushed.result (record { settled = new.blank; fuse = new.fuse; clock = new.clock; failures = new.failures }) simulates c.finish-flushed.ensures.bytes c.finish-flushed.ensures.fault)
