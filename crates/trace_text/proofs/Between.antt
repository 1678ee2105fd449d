-- A text between two signs.
use Rattle.std.proofs.Common.{◌≡◌, ℕ, Bool, true, false, nat_eq, List, [], ◌∷◌, ◌++◌, refl, sym, ap, ◌∙◌}
use Rattle.std.proofs.lemmas.Bool.Decides.{same_from_decides, Decides-eqb}
use Rattle.std.specs.Str.{bytes_eq}
use Rattle.std.proofs.lemmas.Slice.Eq.{bytes_eq-Decides}

head_of : ℕ → List ℕ → ℕ
head_of d [] = d
head_of d (x ∷ xs) = x

tail_of : List ℕ → List ℕ
tail_of [] = []
tail_of (x ∷ xs) = xs

snoc_is : (xs ys : List ℕ) (x y : ℕ) → xs ++ x ∷ [] ≡ ys ++ y ∷ [] → (xs ≡ ys) × (x ≡ y)
unfolding head_of tail_of
snoc_is [] [] x y e = (refl, ap (head_of 0) e)
snoc_is [] (b ∷ []) x y e = absurd cc
snoc_is [] (b ∷ c ∷ ys) x y e = absurd cc
snoc_is (a ∷ []) [] x y e = absurd cc
snoc_is (a ∷ c ∷ xs) [] x y e = absurd cc
snoc_is (a ∷ xs) (b ∷ ys) x y e =
    let first : a ≡ b = ap (head_of 0) e in
    let both = snoc_is xs ys x y (ap tail_of e) in
    (ap (λ (z : ℕ). z ∷ xs) first ∙ ap (λ (zs : List ℕ). b ∷ zs) both.0, both.1)

-- the last of it decides, where the others are the same
pub last_decides : (b : Bool) (shown rest middle asked : List ℕ) (first last opening closing : ℕ) → b ≡ bytes_eq middle asked → b ≡ true → shown ≡ first ∷ rest → rest ≡ middle ++ last ∷ [] → first ≡ opening
    → nat_eq last closing ≡ bytes_eq shown (opening ∷ (asked ++ closing ∷ []))
unfolding tail_of
last_decides b shown rest middle asked first last opening closing eq holds is more one =
    let same : middle ≡ asked = (bytes_eq-Decides middle asked).0 (sym eq ∙ holds) in
    let whole : shown ≡ opening ∷ (asked ++ last ∷ []) = is ∙ ap (λ (l : List ℕ). first ∷ l) (more ∙ ap (λ (m : List ℕ). m ++ last ∷ []) same) ∙ ap (λ (x : ℕ). x ∷ (asked ++ last ∷ [])) one in
    let d = Decides-eqb last closing in
    same_from_decides {P = shown ≡ opening ∷ (asked ++ closing ∷ [])} (nat_eq last closing) (bytes_eq shown (opening ∷ (asked ++ closing ∷ [])))
    (λ e. whole ∙ ap (λ (x : ℕ). opening ∷ (asked ++ x ∷ [])) (d.0 e), λ p. d.1 (snoc_is asked asked last closing (ap tail_of (sym whole ∙ p))).1)
    (bytes_eq-Decides shown (opening ∷ (asked ++ closing ∷ [])))

-- others that differ are no such text
pub middle_differs : (b : Bool) (shown rest middle asked : List ℕ) (first last opening closing : ℕ) → b ≡ bytes_eq middle asked → b ≡ false → shown ≡ first ∷ rest → rest ≡ middle ++ last ∷ [] → b ≡ bytes_eq shown (opening ∷ (asked ++ closing ∷ []))
unfolding tail_of
middle_differs b shown rest middle asked first last opening closing eq differs is more =
    let d = bytes_eq-Decides middle asked in
    same_from_decides {P = shown ≡ opening ∷ (asked ++ closing ∷ [])} b (bytes_eq shown (opening ∷ (asked ++ closing ∷ [])))
    (λ e. let f : true ≡ false = sym e ∙ differs in absurd cc, λ p. eq ∙ d.1 (snoc_is middle asked last closing (sym more ∙ ap tail_of (sym is ∙ p))).0)
    (bytes_eq-Decides shown (opening ∷ (asked ++ closing ∷ [])))
