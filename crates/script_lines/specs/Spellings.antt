-- How the words of a script spell numbers and bytes.
use Rattle.std.specs.Prelude.{◌≡◌, ℕ, ◌<◌, ◌≤◌, ◌^◌, ◌/◌, ◌%◌, ◌⊎◌, ⊤, false, true, Option, None, Some, List, [], ◌∷◌, codes, map, ◌==◌}
use Rattle.std.specs.Fmt.{decimal, digit_glyph}
use Rattle.std.specs.List.{slice_split}
use denote.Ref.{Bor}

-- what was found has P; where nothing was found, nothing has it
abbrev pub IsFound : {X : Type 0} → (X → Type 0) → Option X → Type 0
IsFound P (Some x) = P x
IsFound {X} P None = (x : X) → P x → ⊥

-- the same, by what is seen of it
abbrev pub IsFoundAs : {V X : Type 0} → (V → X) → (X → Type 0) → Option V → Type 0
IsFoundAs seen P (Some v) = P (seen v)
IsFoundAs {V} {X} seen P None = (x : X) → P x → ⊥

-- the words of a text, which one blank parts from each other
abbrev pub words : List ℕ → List (List ℕ)
words text = slice_split (λ b. b == 32) text

-- the bytes of the words
abbrev pub texts : List (Bor (List ℕ)) → List (List ℕ)
texts ws = map (λ w. w.now) ws

-- the word is this number in decimal, without a sign and leading zeros
pub record IsNumber (word : List ℕ) (n : ℕ) : Type 0 where
  pub spelled : word ≡ decimal n
  pub small : n < 2 ^ 64

-- the same, of a number from least to most
pub record IsNumberIn (least most : ℕ) (word : List ℕ) (n : ℕ) : Type 0 where
  pub number : IsNumber word n
  pub least_kept : least ≤ n
  pub most_kept : n ≤ most

-- a hexadecimal digit of either case
abbrev pub IsDigit : ℕ → ℕ → Type 0
IsDigit letter d = (d < 16) × ((letter ≡ digit_glyph false d) ⊎ (letter ≡ digit_glyph true d))

-- two hexadecimal digits for each byte
abbrev pub IsHex : List ℕ → List ℕ → Type 0
IsHex (high ∷ low ∷ word) (b ∷ bytes) = IsDigit high (b / 16) × IsDigit low (b % 16) × IsHex word bytes
IsHex [] [] = ⊤
IsHex _ _ = ⊥

-- the bytes in hexadecimal, `-` for none
abbrev pub IsBytes : List ℕ → List ℕ → Type 0
IsBytes word [] = word ≡ codes "-"
IsBytes word (b ∷ bytes) = IsHex word (b ∷ bytes)

-- the only word spells it
pub record Sole {X : Type 0} (Spells : List ℕ → X → Type 0) (words : List (List ℕ)) (x : X) : Type 0 where
  pub word : List ℕ
  pub are : words ≡ word ∷ []
  pub spells : Spells word x

-- there are two words, of which each spells one
pub record Two {X Y : Type 0} (Spells1 : List ℕ → X → Type 0) (Spells2 : List ℕ → Y → Type 0) (words : List (List ℕ)) (x : X) (y : Y) : Type 0 where
  pub word1 : List ℕ
  pub word2 : List ℕ
  pub are : words ≡ word1 ∷ word2 ∷ []
  pub spells1 : Spells1 word1 x
  pub spells2 : Spells2 word2 y

-- the same of three words
pub record Three {X Y Z : Type 0} (Spells1 : List ℕ → X → Type 0) (Spells2 : List ℕ → Y → Type 0) (Spells3 : List ℕ → Z → Type 0) (words : List (List ℕ)) (x : X) (y : Y) (z : Z) : Type 0 where
  pub word1 : List ℕ
  pub word2 : List ℕ
  pub word3 : List ℕ
  pub are : words ≡ word1 ∷ word2 ∷ word3 ∷ []
  pub spells1 : Spells1 word1 x
  pub spells2 : Spells2 word2 y
  pub spells3 : Spells3 word3 z

-- the first word spells one, and those after it another
pub record First {X Y : Type 0} (Spells1 : List ℕ → X → Type 0) (SpellsOthers : List (List ℕ) → Y → Type 0) (words : List (List ℕ)) (x : X) (y : Y) : Type 0 where
  pub word : List ℕ
  pub others : List (List ℕ)
  pub are : words ≡ word ∷ others
  pub spells : Spells1 word x
  pub spells_others : SpellsOthers others y
