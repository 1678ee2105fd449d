use Rattle.std.proofs.Common.{◌∙◌, sym}
use Rattle.stores.specs.EventLaws.{length-reads}
use Rattle.stores.specs.Noted.{past}
use Rattle.stores.proofs.folder_store.FolderStoreStore.files.Goals as goal

pub returns : goal.returns
returns c =
    let p = past c.args.self.now.files c.args.self.now.calls in
    c.count.ensures ∙ sym (length-reads p.world p.count p.events)
