use Rattle.std.proofs.Common.{Err, ap, sym, subst}
use Rattle.stores.specs.MemStore.{disk_of, IsPossible, IsSettled}
use Rattle.stores.specs.Crashes.{image_of}
use Rattle.stores.specs.declared.pick.Pick.{Pick}
use Rattle.simulator.specs.Simulated.{leaves, refuses}
use Rattle.simulator.proofs.sim.crashed.Goals as goal

pub returns-in-Ok : goal.returns-in-Ok
returns-in-Ok c =
    let same = c.from.ensures in
    let e = c.in-Ok.ensures in
    leaves (subst (λ (pick : Pick). IsPossible pick c.args.store.now) same e.is_image)
    (subst (λ (pick : Pick). IsSettled c.crash.new.self (image_of pick (disk_of c.args.store.now))) same e.left) e.fuse e.clock e.failures

pub returns-in-Err : goal.returns-in-Err
returns-in-Err c =
    let same = c.from.ensures in
    let e = c.in-Err.ensures in
    refuses c.in-Err.fault (λ is possible. e.not_image.0 (ap Err is) (subst (λ (pick : Pick). IsPossible pick c.args.store.now) (sym same) possible)) e.err
