-- What a change of the row of a name leaves of the others.
use Rattle.std.proofs.Common.{◌≡◌, ℕ, Bool, true, false, List, Option, Vec, ap, refl, ◌∙◌}
use Rattle.std.specs.Prelude.{if◌then◌else◌}
use Rattle.std.specs.declared.alloc.Global.{Global}
use Rattle.std.specs.HashMap.{HashMap, UpdatesBy}
use Rattle.std.specs.Map.{update}
use Rattle.std.specs.Str.{bytes_eq}
use Rattle.std.specs.Option.{option_map}
use Rattle.trace_times.specs.Keyed.{row_at}
use Rattle.trace_times.proofs.KeyLemmas.{key_eq, updated}
use Rattle.trace_views.specs.Rows.{holder_in}

-- what is read of one of two rows is one of what is read of both
read_of : {R X : Type 0} (read : R → X) (test : Bool) (w r : Option R) → option_map read (if test then w else r) ≡ (if test then option_map read w else option_map read r)
read_of read true w r = refl
read_of read false w r = refl

-- who has a name, where its row is put or taken away
pub holder_updated : {S : Type 0} (name : List ℕ) (old new : HashMap (Vec ℕ Global) (Vec ℕ Global) S) (w : Option (Vec ℕ Global)) → UpdatesBy key_eq (λ k. bytes_eq name k.items) old new w → (other : List ℕ) → holder_in new other ≡ update bytes_eq (holder_in old) name (option_map (λ process. process.items) w) other
holder_updated name old new w h other = ap (option_map (λ (process : Vec ℕ Global). process.items)) (updated name old new w h other) ∙ read_of (λ (process : Vec ℕ Global). process.items) (bytes_eq name other) w (row_at old other)
