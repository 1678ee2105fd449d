-- These lemmas say what came through a writer up to an empty line, as it is known by what it holds.
use Rattle.std.proofs.Common.{◌≡◌, ℕ, suc, Bool, true, Option, Some, None, List, [], ◌∷◌, ◌++◌, length, refl, ◌∙◌, ap, subst, append-nil, arith}
use Rattle.std.specs.Io.KnownBytes.{Appends, Keeps}
use Rattle.std.proofs.KnownBytes.{Appends-kept}
use Rattle.shown_listings.specs.Ends.{has_empty, before_empty, counted, end_contents, Passed}

-- Two equal lists that begin with parts of one length have the same parts.
append-apart : (xs ys us vs : List ℕ) → length xs ≡ length ys → xs ++ us ≡ ys ++ vs → (xs ≡ ys) × (us ≡ vs)
append-apart [] [] us vs same e = (refl, e)
append-apart [] (y ∷ ys) us vs same e = absurd (omega arith)
append-apart (x ∷ xs) [] us vs same e = absurd (omega arith)
append-apart (x ∷ xs) (y ∷ ys) us vs same e =
    let head : x ≡ y = cc in
    let tail : xs ++ us ≡ ys ++ vs = cc in
    let more = append-apart xs ys us vs (omega arith) tail in
    (ap (λ z. z ∷ xs) head ∙ ap (λ zs. y ∷ zs) more.0, more.1)

-- What was counted is known again.
counted-apart : (a b : Option (List ℕ)) (us vs : List ℕ) → counted a ++ us ≡ counted b ++ vs → (a ≡ b) × (us ≡ vs)
counted-apart None None us vs e = (refl, cc)
counted-apart None (Some ys) us vs e = let no : 0 ≡ suc (length ys) = cc in absurd (omega arith)
counted-apart (Some xs) None us vs e = let no : suc (length xs) ≡ 0 = cc in absurd (omega arith)
counted-apart (Some xs) (Some ys) us vs e =
    let lengths : suc (length xs) ≡ suc (length ys) = cc in
    let tail : xs ++ us ≡ ys ++ vs = cc in
    let more = append-apart xs ys us vs (omega arith) tail in
    (ap Some more.0, more.1)

-- A writer that a text came to since it was made was made over one that held this then, and was given that text.
pub same_end : (start later : Option (List ℕ)) (given text : List ℕ) → Appends (end_contents start []) (end_contents later given) text → (later ≡ start) × (given ≡ text)
unfolding end_contents
same_end start later given text grown =
    let all : counted later ++ given ≡ counted start ++ text = grown ∙ ap (λ l. l ++ text) (append-nil (counted start)) in
    counted-apart later start given text all

-- So what stands before the first empty line of that text came through it.
pub passed : (was later now : Option (List ℕ)) (given text : List ℕ) (ended : Bool) → Appends later now (before_empty true given) → ended ≡ has_empty true given → Appends (end_contents was []) (end_contents later given) text → Passed ended text was now
passed was later now given text ended held is grown =
    let same = same_end was later given text grown in
    record {
      shown = subst (λ s. Appends s now (before_empty true text)) same.0 (subst (λ t. Appends later now (before_empty true t)) same.1 held);
      is = is ∙ ap (has_empty true) same.1;
    }

-- What is shown stays so where the one below keeps what it holds.
pub passed-kept : (ended : Bool) (text : List ℕ) (was now after : Option (List ℕ)) → Passed ended text was now → Keeps now after → Passed ended text was after
passed-kept ended text was now after by kept = record {
  shown = Appends-kept was now after (before_empty true text) by.shown kept;
  is = by.is;
}
