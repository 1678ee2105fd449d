use Rattle.std.proofs.Common.{◌<◌, ℕ, IfErr, subst, sym}
use Rattle.stores.specs.EventLaws.{length-reads}
use Rattle.stores.specs.LockFault.{file_of}
use Rattle.stores.specs.Noted.{past}
use Rattle.stores.proofs.folder_store.FolderStore.lock.Goals as goal

pub returns-clause-file : goal.returns-clause-file
returns-clause-file c =
    let p = past c.args.self.now.files c.args.self.now.calls in
    subst (λ (n : ℕ). IfErr c.lock.result (λ fault. file_of fault < n)) (sym (length-reads p.world p.count p.events)) c.lock.ensures.file
