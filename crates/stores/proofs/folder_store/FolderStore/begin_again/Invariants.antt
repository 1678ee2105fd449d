use Rattle.stores.proofs.folder_store.FolderStore.begin_again.Given as goal

abbrev pub ghost-new : goal.ghost-new
ghost-new g a = g.begun
