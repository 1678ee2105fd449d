-- These lemmas follow a text up to an empty line, part by part.
use Rattle.std.proofs.Common.{◌≡◌, ℕ, zero, suc, ◌+◌, Bool, true, false, ◌||◌, cond, Some, None, List, [], ◌∷◌, ◌++◌, ◌==◌, length, get_or, slice_get, take, drop, refl, sym, ◌∙◌, ap, append_assoc, append-nil, arith, ◌<◌, ◌≤◌, ◌-◌}
use Rattle.std.proofs.lemmas.Bool.{eqb-true, and_parts, or_parts}
use Rattle.std.proofs.lemmas.List.{drop_more, take_more, drop_all}
use Rattle.shown_listings.specs.Ends.{ends_empty, has_empty, before_empty, is_fresh_behind}

-- A byte that ends no empty line leaves it to the rest whether one does.
pub has_on : (fresh : Bool) (byte : ℕ) (bytes : List ℕ) → ends_empty fresh byte ≡ false → has_empty fresh (byte ∷ bytes) ≡ has_empty (byte == 10) bytes
unfolding has_empty
has_on fresh byte bytes other = ap (λ (b : Bool). b || has_empty (byte == 10) bytes) other

-- It stands before the first one.
pub before_on : (fresh : Bool) (byte : ℕ) (bytes : List ℕ) → ends_empty fresh byte ≡ false → before_empty fresh (byte ∷ bytes) ≡ byte ∷ before_empty (byte == 10) bytes
unfolding before_empty
before_on fresh byte bytes other = ap (λ (b : Bool). cond b [] (byte ∷ before_empty (byte == 10) bytes)) other

-- A byte that ends an empty line is the first.
pub has_here : (fresh : Bool) (byte : ℕ) (bytes : List ℕ) → ends_empty fresh byte ≡ true → has_empty fresh (byte ∷ bytes) ≡ true
unfolding has_empty
has_here fresh byte bytes at = ap (λ (b : Bool). b || has_empty (byte == 10) bytes) at

-- Nothing stands before it.
pub before_here : (fresh : Bool) (byte : ℕ) (bytes : List ℕ) → ends_empty fresh byte ≡ true → before_empty fresh (byte ∷ bytes) ≡ []
unfolding before_empty
before_here fresh byte bytes at = ap (λ (b : Bool). cond b [] (byte ∷ before_empty (byte == 10) bytes)) at

-- What comes behind a text and more is told by what comes behind that text.
pub fresh_more : (fresh : Bool) (text more : List ℕ) → is_fresh_behind fresh (text ++ more) ≡ is_fresh_behind (is_fresh_behind fresh text) more
unfolding is_fresh_behind
fresh_more fresh [] more = refl
fresh_more fresh (byte ∷ text) more = fresh_more (byte == 10) text more

-- Behind a text with no empty line, it is left to what follows whether there is one.
pub has_more : (fresh : Bool) (text more : List ℕ) → has_empty fresh text ≡ false → has_empty fresh (text ++ more) ≡ has_empty (is_fresh_behind fresh text) more
unfolding has_empty is_fresh_behind
has_more fresh [] more none = refl
has_more fresh (byte ∷ text) more none =
    let n = or_parts (ends_empty fresh byte) (has_empty (byte == 10) text) none in
    has_on fresh byte (text ++ more) n.0 ∙ has_more (byte == 10) text more n.1

-- All of a text with no empty line stands before the first one behind it.
pub before_more : (fresh : Bool) (text more : List ℕ) → has_empty fresh text ≡ false → before_empty fresh (text ++ more) ≡ text ++ before_empty (is_fresh_behind fresh text) more
unfolding has_empty is_fresh_behind
before_more fresh [] more none = refl
before_more fresh (byte ∷ text) more none =
    let n = or_parts (ends_empty fresh byte) (has_empty (byte == 10) text) none in
    before_on fresh byte (text ++ more) n.0 ∙ ap (λ (l : List ℕ). byte ∷ l) (before_more (byte == 10) text more n.1)

-- All of a text stands before an empty line where it has none.
pub before_none : (fresh : Bool) (text : List ℕ) → has_empty fresh text ≡ false → before_empty fresh text ≡ text
unfolding has_empty before_empty
before_none fresh [] none = refl
before_none fresh (byte ∷ text) none =
    let n = or_parts (ends_empty fresh byte) (has_empty (byte == 10) text) none in
    before_on fresh byte text n.0 ∙ ap (λ (l : List ℕ). byte ∷ l) (before_none (byte == 10) text n.1)

-- A front of a text with no empty line has none.
pub none-front : (fresh : Bool) (n : ℕ) (text : List ℕ) → has_empty fresh text ≡ false → has_empty fresh (take n text) ≡ false
unfolding has_empty
none-front fresh zero text none = refl
none-front fresh (suc n) [] none = refl
none-front fresh (suc n) (byte ∷ text) none =
    let rest = or_parts (ends_empty fresh byte) (has_empty (byte == 10) text) none in
    has_on fresh byte (take n text) rest.0 ∙ none-front (byte == 10) n text rest.1

-- What stands before the first empty line has none.
pub none-before : (fresh : Bool) (text : List ℕ) → has_empty fresh (before_empty fresh text) ≡ false
unfolding has_empty before_empty
none-before fresh [] = refl
none-before fresh (byte ∷ text) =
    (elim (ends_empty fresh byte) as (λ b. ends_empty fresh byte ≡ b → has_empty fresh (before_empty fresh (byte ∷ text)) ≡ false) [
      | true ↦ λ e. ap (has_empty fresh) (before_here fresh byte text e)
      | false ↦ λ e. ap (has_empty fresh) (before_on fresh byte text e) ∙ has_on fresh byte (before_empty (byte == 10) text) e ∙ none-before (byte == 10) text
    ]) refl

-- Where nothing stands before the first empty line of a text that has bytes, that line's feed is the first of them.
begins-ended : (fresh : Bool) (text : List ℕ) → 0 < length text → [] ≡ before_empty fresh text → (fresh ≡ true) × (10 ∷ [] ≡ take 1 text)
unfolding before_empty
begins-ended fresh [] some none = absurd (omega arith)
begins-ended fresh (byte ∷ text) some none =
    (elim (ends_empty fresh byte) as (λ b. ends_empty fresh byte ≡ b → (fresh ≡ true) × (10 ∷ [] ≡ byte ∷ [])) [
      | true ↦ λ e. let at = and_parts fresh (byte == 10) e in (at.0, ap (λ y. y ∷ []) (sym (eqb-true byte 10 at.1)))
      | false ↦ λ e. let no : [] ≡ byte ∷ before_empty (byte == 10) text = none ∙ before_on fresh byte text e in absurd cc
    ]) refl

-- The same holds where the count of what stands before it is 0.
pub first-ends : (fresh : Bool) (text : List ℕ) (n : ℕ) → n ≡ 0 → n < length text → take n text ≡ before_empty fresh text → (fresh ≡ true) × (10 ∷ [] ≡ take 1 text)
first-ends fresh text n first some before =
    begins-ended fresh text (omega arith) (sym (ap (λ k. take k text) first) ∙ before)

-- Here a text is read byte by byte: a byte that ends no empty line is passed over.
pub has-step : (fresh : Bool) (bytes : List ℕ) (i : ℕ) → i < length bytes → ends_empty fresh (get_or bytes i 0) ≡ false → has_empty fresh (drop i bytes) ≡ has_empty (get_or bytes i 0 == 10) (drop (i + 1) bytes)
has-step fresh bytes i within other = ap (has_empty fresh) (drop_more bytes i 0 within) ∙ has_on fresh (get_or bytes i 0) (drop (i + 1) bytes) other

pub before-step : (fresh : Bool) (bytes : List ℕ) (i : ℕ) → i < length bytes → ends_empty fresh (get_or bytes i 0) ≡ false
    → take i bytes ++ before_empty fresh (drop i bytes) ≡ take (i + 1) bytes ++ before_empty (get_or bytes i 0 == 10) (drop (i + 1) bytes)
before-step fresh bytes i within other =
    let byte = get_or bytes i 0 in
    let more = before_empty (byte == 10) (drop (i + 1) bytes) in
    ap (λ l. take i bytes ++ l) (ap (before_empty fresh) (drop_more bytes i 0 within) ∙ before_on fresh byte (drop (i + 1) bytes) other) ∙ sym (append_assoc (take i bytes) (byte ∷ []) more) ∙ ap (λ l. l ++ more) (sym (take_more bytes i 0 within))

-- A byte that ends an empty line is found.
pub has-found : (fresh : Bool) (bytes : List ℕ) (i : ℕ) → i < length bytes → ends_empty fresh (get_or bytes i 0) ≡ true → has_empty fresh (drop i bytes) ≡ true
has-found fresh bytes i within at = ap (has_empty fresh) (drop_more bytes i 0 within) ∙ has_here fresh (get_or bytes i 0) (drop (i + 1) bytes) at

pub before-found : (fresh : Bool) (bytes : List ℕ) (i : ℕ) → i < length bytes → ends_empty fresh (get_or bytes i 0) ≡ true → take i bytes ++ before_empty fresh (drop i bytes) ≡ take i bytes
before-found fresh bytes i within at = ap (λ l. take i bytes ++ l) (ap (before_empty fresh) (drop_more bytes i 0 within) ∙ before_here fresh (get_or bytes i 0) (drop (i + 1) bytes) at) ∙ append-nil (take i bytes)

-- There is none behind the last byte.
pub has-end : (fresh : Bool) (bytes : List ℕ) (i : ℕ) → length bytes ≤ i → has_empty fresh (drop i bytes) ≡ false
unfolding has_empty
has-end fresh bytes i end = ap (has_empty fresh) (drop_all i bytes end)

-- The last byte tells whether a line begins behind the text.
pub fresh-last : (fresh : Bool) (bytes : List ℕ) (byte : ℕ) → Some byte ≡ slice_get bytes (length bytes - 1) → (byte == 10) ≡ is_fresh_behind fresh bytes
unfolding is_fresh_behind
fresh-last fresh [] byte at = absurd cc
fresh-last fresh (x ∷ []) byte at = ap (λ y. y == 10) (let same : byte ≡ x = cc in same)
fresh-last fresh (x ∷ y ∷ bytes) byte at =
    let n : suc (suc (length bytes)) - 1 ≡ suc (suc (length bytes) - 1) = omega arith in
    fresh-last (x == 10) (y ∷ bytes) byte (at ∙ ap (slice_get (x ∷ y ∷ bytes)) n)

-- A text with no last byte is empty.
no-last : (bytes : List ℕ) → None ≡ slice_get bytes (length bytes - 1) → bytes ≡ []
no-last [] at = refl
no-last (x ∷ []) at = absurd cc
no-last (x ∷ y ∷ bytes) at =
    let n : suc (suc (length bytes)) - 1 ≡ suc (suc (length bytes) - 1) = omega arith in
    let none : y ∷ bytes ≡ [] = no-last (y ∷ bytes) (at ∙ ap (slice_get (x ∷ y ∷ bytes)) n) in
    absurd cc

-- An empty text leaves it as it was.
pub fresh-nothing : (fresh : Bool) (bytes : List ℕ) → None ≡ slice_get bytes (length bytes - 1) → fresh ≡ is_fresh_behind fresh bytes
unfolding is_fresh_behind
fresh-nothing fresh bytes at = sym (ap (is_fresh_behind fresh) (no-last bytes at))
