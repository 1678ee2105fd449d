-- These lemmas say what a writer up to an empty line keeps, and what it holds as a writer, as it is given bytes.
use Rattle.std.proofs.Common.{◌≡◌, ℕ, ◌≤◌, Bool, true, false, Option, Result, Ok, Err, OnErr, IfOk, List, [], ◌∷◌, ◌++◌, length, take, sym, ◌∙◌, ap, subst, append_assoc, arith}
use Rattle.std.proofs.lemmas.List.{take-take, length-take}
use Rattle.std.specs.Io.{WritesAtMost}
use Rattle.std.specs.Io.KnownBytes.{Appends, Keeps, WriteAppends}
use Rattle.std.proofs.KnownBytes.{Appends-trans, Appends-nil, Keeps-refl}
use Rattle.shown_listings.specs.declared.given.Given.{Given}
use Rattle.shown_listings.specs.Ends.{has_empty, before_empty, is_fresh_behind, counted, end_contents}
use Rattle.shown_listings.proofs.Ending.{fresh_more, has_more, before_more, before_none}

-- More was given behind what was given before.
abbrev pub with_more : Given → List ℕ → Given
with_more given more = record given { bytes = given.bytes ++ more }

abbrev bytes_of : Given → List ℕ
bytes_of given = given.bytes

abbrev start_of : Given → Option (List ℕ)
start_of given = given.start

-- A writer that was given nothing begins a line.
pub fresh-new : (given : Given) → given.bytes ≡ [] → true ≡ is_fresh_behind true given.bytes
unfolding is_fresh_behind
fresh-new given none = sym (ap (is_fresh_behind true) none)

-- No empty line came to it.
pub ended-new : (given : Given) → given.bytes ≡ [] → false ≡ has_empty true given.bytes
unfolding has_empty
ended-new given none = sym (ap (has_empty true) none)

-- The one below holds what it held then.
pub held-new : (given : Given) (start now : Option (List ℕ)) → (given.start ≡ start) × (given.bytes ≡ []) → start ≡ now → Appends given.start now (before_empty true given.bytes)
unfolding before_empty
held-new given start now is same =
    let nothing : [] ≡ before_empty true given.bytes = sym (ap (before_empty true) is.1) in
    subst (Appends given.start now) nothing (subst (λ later. Appends given.start later []) (is.0 ∙ same) (Appends-nil given.start))

-- A part came, and it tells what comes behind it.
pub fresh-grown : (given later : Given) (part : List ℕ) (fresh behind : Bool) → later ≡ with_more given part → fresh ≡ is_fresh_behind true given.bytes → behind ≡ is_fresh_behind fresh part → behind ≡ is_fresh_behind true later.bytes
fresh-grown given later part fresh behind came is told =
    told ∙ ap (λ b. is_fresh_behind b part) is ∙ sym (ap (λ g. is_fresh_behind true (bytes_of g)) came ∙ fresh_more true given.bytes part)

-- Where no empty line came before, the part tells whether one came.
pub ended-grown : (given later : Given) (part : List ℕ) (fresh ended : Bool) → later ≡ with_more given part → fresh ≡ is_fresh_behind true given.bytes → has_empty true given.bytes ≡ false → ended ≡ has_empty fresh part → ended ≡ has_empty true later.bytes
ended-grown given later part fresh ended came is none told =
    told ∙ ap (λ b. has_empty b part) is ∙ sym (ap (λ g. has_empty true (bytes_of g)) came ∙ has_more true given.bytes part none)

-- What of the part stands before an empty line is handed on.
pub held-grown : (given later : Given) (part : List ℕ) (fresh : Bool) (now after : Option (List ℕ)) → later ≡ with_more given part → fresh ≡ is_fresh_behind true given.bytes → has_empty true given.bytes ≡ false
    → Appends given.start now (before_empty true given.bytes) → Appends now after (before_empty fresh part) → Appends later.start after (before_empty true later.bytes)
held-grown given later part fresh now after came is none held more =
    let all : before_empty true given.bytes ++ before_empty fresh part ≡ before_empty true (given.bytes ++ part) =
    ap (λ text. text ++ before_empty fresh part) (before_none true given.bytes none) ∙ ap (λ b. given.bytes ++ before_empty b part) is ∙ sym (before_more true given.bytes part none) in
    let at : Appends given.start after (before_empty true (given.bytes ++ part)) = subst (Appends given.start after) all (Appends-trans given.start now after _ _ held more) in
    subst (λ g. Appends (start_of g) after (before_empty true (bytes_of g))) (sym came) at

-- These are the facts of a line feed at the beginning of a line, as a part: a line begins behind it, it ends an empty line, and nothing is handed on.
fed-fresh : (fresh : Bool) → fresh ≡ true → fresh ≡ is_fresh_behind fresh (10 ∷ [])
unfolding is_fresh_behind
fed-fresh fresh at = at

fed-ends : (fresh : Bool) → fresh ≡ true → true ≡ has_empty fresh (10 ∷ [])
unfolding has_empty
fed-ends fresh at = sym (ap (λ b. has_empty b (10 ∷ [])) at)

fed-nothing : (fresh : Bool) → fresh ≡ true → [] ≡ before_empty fresh (10 ∷ [])
unfolding before_empty
fed-nothing fresh at = sym (ap (λ b. before_empty b (10 ∷ [])) at)

-- The line feed of an empty line came, and a line begins behind it as before.
pub fresh-fed : (given later : Given) (fresh : Bool) → later ≡ with_more given (10 ∷ []) → fresh ≡ is_fresh_behind true given.bytes → fresh ≡ true → fresh ≡ is_fresh_behind true later.bytes
fresh-fed given later fresh came is at = fresh-grown given later (10 ∷ []) fresh fresh came is (fed-fresh fresh at)

-- It ends the listing.
pub ended-fed : (given later : Given) (fresh : Bool) → later ≡ with_more given (10 ∷ []) → fresh ≡ is_fresh_behind true given.bytes → fresh ≡ true → has_empty true given.bytes ≡ false → true ≡ has_empty true later.bytes
ended-fed given later fresh came is at none = ended-grown given later (10 ∷ []) fresh true came is none (fed-ends fresh at)

-- Nothing is handed on for it.
pub held-fed : (given later : Given) (fresh : Bool) (now : Option (List ℕ)) → later ≡ with_more given (10 ∷ []) → fresh ≡ is_fresh_behind true given.bytes → fresh ≡ true → has_empty true given.bytes ≡ false
    → Appends given.start now (before_empty true given.bytes) → Appends later.start now (before_empty true later.bytes)
held-fed given later fresh now came is at none held = held-grown given later (10 ∷ []) fresh now now came is none held (subst (Appends now now) (fed-nothing fresh at) (Appends-nil now))

-- This is what a writer that was given this holds as a writer.
abbrev holds : Given → Option (List ℕ)
holds given = end_contents given.start given.bytes

-- What it holds grows by each part that it is given.
grows : (given : Given) (part : List ℕ) → Appends (holds given) (holds (with_more given part)) part
unfolding end_contents
grows given part = sym (append_assoc (counted given.start) given.bytes part)

-- The line feed of an empty line was taken, which is the first of the bytes.
pub contents-fed : (given after : Given) (bytes : List ℕ) → after ≡ with_more given (10 ∷ []) → 10 ∷ [] ≡ take 1 bytes → Appends (holds given) (holds after) (take 1 bytes)
contents-fed given after bytes came first =
    subst (λ g. Appends (holds given) (holds g) (take 1 bytes)) (sym came) (subst (Appends (holds given) (holds (with_more given (10 ∷ [])))) first (grows given (10 ∷ [])))

-- Some of a front of the bytes was taken, or nothing was.
pub contents-taken : {E : Type 0} (result : Result ℕ E) (given after : Given) (n : ℕ) (part bytes : List ℕ) → part ≡ take n bytes → WritesAtMost result part → IfOk result (λ count. after ≡ with_more given (take count part)) → OnErr result (after ≡ given)
    → WriteAppends (holds given) (holds after) result bytes
contents-taken (Ok count) given after n part bytes front bound came none =
    let within : count ≤ n = omega (arith, bound, ap (λ l. length l) front, length-take n bytes) in
    let same : take count part ≡ take count bytes = ap (take count) front ∙ take-take count n bytes within in
    subst (λ g. Appends (holds given) (holds g) (take count bytes)) (sym came) (subst (Appends (holds given) (holds (with_more given (take count part)))) same (grows given (take count part)))
contents-taken (Err fault) given after n part bytes front bound came none = subst (λ g. Keeps (holds given) (holds g)) (sym none) (Keeps-refl (holds given))
