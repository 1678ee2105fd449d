-- Lists by their places.
use Rattle.std.proofs.Common.{◌≡◌, ◌≢◌, ℕ, zero, suc, ◌<◌, ◌≤◌, List, [], ◌∷◌, length, map, set, get_or, slice_get, Some, None, refl, sym, ◌∙◌, ap, arith}
use Rattle.std.proofs.lemmas.List.{length-map, map-set, get_or-map, set-get_or}
use Rattle.std.specs.Option.{option_map}
use Rattle.std.proofs.lemmas.Option.{same_Some, slice_get-map, slice_get-get_or, slice_get_past}

-- what is seen at a place
pub got : {A B : Type 0} (f : A → B) (xs : List A) (i : ℕ) (d : A) → i < length xs → slice_get (map f xs) i ≡ Some (f (get_or xs i d))
got f xs i d less = slice_get-map f xs i ∙ ap (λ o. option_map f o) (slice_get-get_or xs i d less)

-- a default doesn't matter at a place that is there
pub same_at : {A : Type 0} (xs : List A) (i : ℕ) (d d' : A) → i < length xs → get_or xs i d ≡ get_or xs i d'
same_at xs i d d' less = same_Some (get_or xs i d) (get_or xs i d') (sym (slice_get-get_or xs i d less) ∙ slice_get-get_or xs i d' less)

pub not_there : {A B : Type 0} (f : A → B) (xs : List A) (i : ℕ) → length xs ≤ i → slice_get (map f xs) i ≡ None
not_there f xs i past = slice_get_past (map f xs) i (omega (arith, past, length-map xs f))

-- what is seen of an element that is written over stays
pub map_stays : {A B : Type 0} (f : A → B) (xs : List A) (i : ℕ) (d y : A) → i < length xs → f y ≡ f (get_or xs i d) → map f (set xs i y) ≡ map f xs
map_stays {B = B} f xs i d y less same =
    map-set f xs i y ∙ ap (λ (v : B). set (map f xs) i v) (same ∙ sym (get_or-map f xs i d (f d) less)) ∙ set-get_or (map f xs) i (f d)

-- a place that was written, and the others
pub written : {A : Type 0} (xs : List A) (i : ℕ) (x y : A) → slice_get xs i ≡ Some x → slice_get (set xs i y) i ≡ Some y
written [] zero x y e = absurd (cc)
written [] (suc i) x y e = absurd (cc)
written (z ∷ xs) zero x y e = refl
written (z ∷ xs) (suc i) x y e = written xs i x y e

pub not_written : {A : Type 0} (xs : List A) (i j : ℕ) (y : A) → i ≢ j → slice_get (set xs i y) j ≡ slice_get xs j
not_written [] zero j y other = refl
not_written [] (suc i) j y other = refl
not_written (x ∷ xs) zero zero y other = absurd (other refl)
not_written (x ∷ xs) zero (suc j) y other = refl
not_written (x ∷ xs) (suc i) zero y other = refl
not_written (x ∷ xs) (suc i) (suc j) y other = not_written xs i j y (λ e. other (ap suc e))
