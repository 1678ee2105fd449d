use Rattle.std.proofs.Common.{List, ℕ, set, subst}
use Rattle.stores.specs.MemStore.{reads_of}
use Rattle.simulator.specs.Simulated.{IsNew, holds, holds_not}
use Rattle.simulator.proofs.sim.set_bytes.Goals as goal

pub returns-in-Ok : goal.returns-in-Ok
returns-in-Ok c =
    holds (subst (λ (own : List ℕ). IsNew c.in-Ok.changed (set (reads_of c.args.store.now) c.args.file own)) c.deref.ensures.value c.in-Ok.ensures.made)

pub returns-in-Err : goal.returns-in-Err
returns-in-Err c = holds_not {bytes = c.args.bytes.now} c.in-Err.refusal c.in-Err.ensures.looks c.in-Err.ensures.refused
