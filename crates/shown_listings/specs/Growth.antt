-- Known bytes that grow.
use Rattle.std.specs.Prelude.{ℕ, Option, Some, None, List}
use Rattle.std.specs.Coded.{coded_list, coded_ℕ, Coded-set, Unit-prop}
use Rattle.std.specs.Io.KnownBytes.{Appends}

-- a proof that they grew is like any other
pub Appends-prop : (was now : Option (List ℕ)) (bytes : List ℕ) → IsProp (Appends was now bytes)
Appends-prop None now bytes = Unit-prop
Appends-prop (Some xs) None bytes = λ p q. absurd p
Appends-prop (Some xs) (Some ys) bytes = Coded-set (coded_list coded_ℕ) _ _
