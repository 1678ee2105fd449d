-- What a listing has of a first entry, and of the others.
use Rattle.std.proofs.Common.{◌≡◌, ℕ, ◌+◌, List, [], ◌∷◌, ◌++◌, refl, subst, append-nil}
use Rattle.entry_codec.specs.Entries.{Entry}
use Rattle.trace_text.specs.declared.style.Style.{Style}
use Rattle.trace_text.specs.Lines.{IsLine, AreLines, none, line}

-- what it has of an entry in a style
abbrev pub IsOneLine : Style → ℕ → Entry → List ℕ → Type 0
IsOneLine style n e first = IsLine style n e first

-- that, and what it has of the others
pub record FirstLine (style : Style) (n : ℕ) (e : Entry) (es : List Entry) (text : List ℕ) : Type 0 where
  pub first : List ℕ
  pub others : List ℕ
  pub one : IsOneLine style n e first
  pub are : AreLines style (n + 1) es others
  pub is : text ≡ first ++ others

abbrev pub Lined : Style → ℕ → List Entry → List ℕ → Type 0
Lined style n [] text = text ≡ []
Lined style n (e ∷ es) text = FirstLine style n e es text

pub lined : (style : Style) (n : ℕ) (es : List Entry) (text : List ℕ) → AreLines style n es text → Lined style n es text
lined style _ _ _ (none n) = refl
lined style _ _ _ (line n e es first text one are) = record { first = first; others = text; one = one; are = are; is = refl }

pub only_line : (style : Style) (n : ℕ) (e : Entry) (first : List ℕ) → IsOneLine style n e first → AreLines style n (e ∷ []) first
only_line style n e first one = subst (λ (l : List ℕ). AreLines style n (e ∷ []) l) (append-nil first) (line n e [] first [] one (none (n + 1)))
