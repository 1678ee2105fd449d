-- What stands under a text.
use Rattle.std.specs.Prelude.{ℕ, Option, List, Vec}
use Rattle.std.specs.declared.alloc.Global.{Global}
use Rattle.std.specs.HashMap.{HashMap, get_by}
use Rattle.std.specs.Str.{bytes_eq}

-- the row of a text
abbrev pub row_at : {R S : Type 0} → HashMap (Vec ℕ Global) R S → List ℕ → Option R
row_at rows text = get_by (λ key. bytes_eq text key.items) rows
