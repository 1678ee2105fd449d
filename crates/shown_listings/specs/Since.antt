-- Rows that come from an entry on.
use Rattle.std.specs.Prelude.{◌≡◌, ◌≤◌, ◌+◌, ℕ, Option, Some, None, List, ◌∷◌, ◌++◌, []}
use Rattle.std.specs.Str.Parse.{IsNumeral, digits_value}

-- what the object of an entry begins with
abbrev pub object_front : List ℕ
object_front = 123 ∷ 34 ∷ 110 ∷ 34 ∷ 58 ∷ []

-- the line is the object of the entry of this number: digits for that stand behind its first bytes
pub record IsOfEntry (line : List ℕ) (number : ℕ) : Type 0 where
  pub digits : List ℕ
  pub behind : List ℕ
  pub is : line ≡ object_front ++ (digits ++ 44 ∷ behind)
  pub numeral : IsNumeral 10 digits
  pub tells : digits_value 10 digits ≡ number

-- it is of this entry, or of one that comes behind it
abbrev pub IsFrom : ℕ → List ℕ → Type 0
IsFrom first line = (number : ℕ) × IsOfEntry line number × (first ≤ number)

-- a line more came, which has a row more, or none: so many rows came at most of a first entry and what is behind it, once a line of these came
abbrev pub CountsOn : Option ℕ → Option ℕ → List ℕ → ℕ → Option ℕ → Type 0
CountsOn first since line more None = Unit {0}
CountsOn first (Some rows) line more (Some now) = now ≤ rows + more
CountsOn (Some first) None line more (Some now) = IsFrom first line × (now ≤ more)
CountsOn None None line more (Some now) = ⊥

-- where there is a first entry, at least n rows came of it and what is behind it
abbrev pub IsEnough : Option ℕ → Option ℕ → ℕ → Type 0
IsEnough None since n = Unit {0}
IsEnough (Some first) None n = ⊥
IsEnough (Some first) (Some rows) n = n ≤ rows
