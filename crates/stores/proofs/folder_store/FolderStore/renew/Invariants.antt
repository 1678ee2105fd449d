use Rattle.std.specs.Prelude.{length, ◌∷◌}
use Rattle.stores.specs.Events.{world_after}
use Rattle.stores.proofs.folder_store.FolderStore.renew.Given as goal

abbrev pub ghost-begin_again : goal.ghost-begin_again
ghost-begin_again a =
    let calls = a.self.now.calls in
    (world_after (length calls.events) calls.world, (calls.names, record { world = calls.world; events = calls.events } ∷ calls.earlier))
