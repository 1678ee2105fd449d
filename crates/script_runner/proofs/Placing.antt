-- Where tracees sit.
use Rattle.std.proofs.Common.{◌≡◌, ℕ, ◌+◌, ◌<◌, ◌≢◌, Bool, true, false, not, nat_lt, cond, Option, Some, None, List, [], ◌∷◌, map, length, get_or, slice_get, nat_eq, position, refl, sym, ◌∙◌, ap}
use Rattle.std.proofs.lemmas.List.{length-map}
use Rattle.std.proofs.lemmas.List.Quantifiers.{position-Some}
use Rattle.std.proofs.lemmas.Option.{slice_get-map, slice_get-get_or}
use Rattle.std.specs.List.{position_or_len}
use Rattle.std.specs.Option.{option_map, is_some}
use Rattle.tracees.specs.declared.book.PlainBook.{PlainBook}
use Rattle.tracees.specs.declared.book.PlainAccount.{PlainAccount}
use Rattle.tracees.specs.declared.traced.Traced.{Traced}
use Rattle.tracees.specs.contracts.book.PlainBookBookkeeping.TheImpl as plain
use Rattle.script_runner.specs.Sides.{place_by, seat_seen}

-- a place that was found is there
pub place_within : {X : Type 0} (p : X → Bool) (xs : List X) (i : ℕ) → position p xs ≡ Some i → i < length xs
place_within p [] i e = absurd (let bad : None ≡ Some i = e in cc)
place_within p (x ∷ xs) i e = (position-Some p (x ∷ xs) i x e).0

-- what is seen at a place
pub seen_at : {A B : Type 0} (f : A → B) (xs : List A) (i : ℕ) (d : A) → i < length xs → slice_get (map f xs) i ≡ Some (f (get_or xs i d))
seen_at f xs i d less = slice_get-map f xs i ∙ ap (λ o. option_map f o) (slice_get-get_or xs i d less)

first_map : {A B : Type 0} (f : A → B) (p : B → Bool) (xs : List A) → position_or_len p (map f xs) ≡ position_or_len (λ x. p (f x)) xs
first_map f p [] = refl
first_map f p (x ∷ xs) = ap (λ (n : ℕ). cond (not (p (f x))) (1 + n) 0) (first_map f p xs)

position_map : {A B : Type 0} (f : A → B) (p : B → Bool) (xs : List A) → position p (map f xs) ≡ position (λ x. p (f x)) xs
position_map f p xs =
    ap (λ (n : ℕ). cond (nat_lt n (length (map f xs))) (Some n) None) (first_map f p xs)
    ∙ ap (λ (n : ℕ). cond (nat_lt (position_or_len (λ x. p (f x)) xs) n) (Some (position_or_len (λ x. p (f x)) xs)) None) (length-map xs f)

-- where a tracee in memory sits
pub place_seen : (xs : List (Traced PlainBook PlainAccount plain.ghosts)) (n : ℕ) → place_by n (map seat_seen xs) ≡ position (λ traced. nat_eq traced.tracee.number n) xs
place_seen xs n = position_map seat_seen (λ seat. nat_eq seat.tracee.number n) xs

-- whether a tracee of this number was found
pub is_found : (xs : List (Traced PlainBook PlainAccount plain.ghosts)) (n : ℕ) (place : Option ℕ) (found : Bool) → place ≡ position (λ traced. nat_eq traced.tracee.number n) xs → found ≡ is_some place → found ≡ true → place_by n (map seat_seen xs) ≢ None
is_found xs n place found is told was none =
    let nowhere : place ≡ None = is ∙ sym (place_seen xs n) ∙ none in
    let bad : true ≡ false = sym was ∙ told ∙ ap is_some nowhere in
    absurd (cc)

pub is_nowhere : (xs : List (Traced PlainBook PlainAccount plain.ghosts)) (n : ℕ) (place : Option ℕ) (found : Bool) → place ≡ position (λ traced. nat_eq traced.tracee.number n) xs → found ≡ is_some place → found ≡ false → place_by n (map seat_seen xs) ≡ None
is_nowhere xs n None found is told was = place_seen xs n ∙ sym is
is_nowhere xs n (Some place) found is told was = (let bad : true ≡ false = sym told ∙ was in absurd (cc))
