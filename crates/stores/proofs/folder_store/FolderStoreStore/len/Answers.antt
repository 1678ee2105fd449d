use Rattle.stores.specs.Noted.{past}
use Rattle.stores.proofs.FolderSteps.{within_count}
use Rattle.stores.proofs.folder_store.FolderStoreStore.len.Goals as goal

pub len-requires : goal.len-requires
len-requires c = within_count (past c.args.self.now.files c.args.self.now.calls) c.args.file c.requires
