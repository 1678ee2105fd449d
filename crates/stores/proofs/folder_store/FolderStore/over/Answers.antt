use Rattle.std.proofs.Common.{◌∙◌, ap}
use Rattle.std.proofs.lemmas.Result.{IfOk-weaker}
use Rattle.stores.specs.Events.{Past}
use Rattle.stores.specs.EventLaws.{length-reads}
use Rattle.stores.specs.Noted.{past}
use Rattle.stores.proofs.folder_store.FolderStore.over.Goals as goal

pub returns-clause-count : goal.returns-clause-count
returns-clause-count g c = IfOk-weaker c.begin.result _ _ (λ store is. let p = past store.files store.calls in length-reads p.world p.count p.events ∙ ap (λ (q : Past). q.count) is) c.begin.ensures.past
