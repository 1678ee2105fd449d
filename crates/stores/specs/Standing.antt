-- What stands under the name of a file.
use Rattle.std.specs.Prelude.{◌≡◌}
use Rattle.stores.specs.declared.named_file.NamedFile.{NamedFile}
use Rattle.stores.specs.declared.named_file.Standing.TheVariants.{Unseen}

-- nothing is kept of it: the next call opens it anew
abbrev pub IsUnseen : NamedFile → Type 0
IsUnseen file = file.standing ≡ Unseen
