use Rattle.std.specs.Prelude.{map, []}
use Rattle.std.specs.String.{string_bytes}
use Rattle.stores.proofs.folder_store.FolderStore.over.Given as goal

abbrev pub ghost-begin : goal.ghost-begin
ghost-begin g a = (g.world', (map string_bytes a.names.items, []))
