-- Flags and their letters.
use Rattle.std.proofs.Common.{arith, Option, None, Some, sym, ◌∙◌, ap, subst, ◌≡◌, ◌≢◌, ℕ, ◌<◌, ◌≤◌, ◌+◌, Bool, true, false, cond, List, [], ◌∷◌, length, codes, refl, inl, inr, ◌⊎◌, IsTrue, ◌↔◌}
use Rattle.std.specs.Prelude.{nat_eq}
use Rattle.std.specs.List.{list_any}
use Rattle.std.proofs.lemmas.List.Sums.{sum_by-cons}
use Rattle.std.proofs.lemmas.Bool.Decides.{nat_tests}
use Rattle.trace_message.specs.declared.event.Flags.{Flags}
use Rattle.script_lines.specs.Spellings.{IsFound}
use Rattle.script_lines.specs.Table.{times, count_of, set_in, Names, HasLetters, IsFlags}

count_more : (letter x : ℕ) (xs : List ℕ) → count_of letter (x ∷ xs) ≡ cond (nat_eq letter x) 1 0 + count_of letter xs
count_more letter x xs = sum_by-cons (λ (y : ℕ). cond (nat_eq letter y) 1 0) x xs

none_or_it : (letter x : ℕ) → (◌≡◌ {A = ℕ} (cond (nat_eq letter x) 1 0) 0) ⊎ (x ≡ letter)
none_or_it letter x = grind (arith, nat_tests)

-- a byte is one of the letters at most
at_most_one : (x : ℕ) → cond (nat_eq 99 x) 1 0 + cond (nat_eq 115 x) 1 0 + cond (nat_eq 114 x) 1 0 + cond (nat_eq 97 x) 1 0 + cond (nat_eq 116 x) 1 0 + cond (nat_eq 109 x) 1 0 ≤ 1
at_most_one x = grind (arith, nat_tests)

-- no more letters than there are
pub few : (w : List ℕ) → count_of 99 w + count_of 115 w + count_of 114 w + count_of 97 w + count_of 116 w + count_of 109 w ≤ length w
few [] = omega arith
few (x ∷ xs) = omega (arith, few xs, at_most_one x, count_more 99 x xs, count_more 115 x xs, count_more 114 x xs, count_more 97 x xs, count_more 116 x xs, count_more 109 x xs)

times_le : (b : Bool) (n : ℕ) → (IsTrue b ↔ (0 < n)) → times b ≤ n
times_le true n h = omega (arith, h.0 refl)
times_le false n h = omega arith

-- the flags of letters of which none stands there twice, and no other
pub has_letters : (w : List ℕ) (f : Flags) → Names w f → length w ≡ set_in f → HasLetters w f
has_letters w f n e =
    let c = times_le f.call (count_of 99 w) n.call in
    let s = times_le f.send (count_of 115 w) n.send in
    let r = times_le f.receive (count_of 114 w) n.receive in
    let a = times_le f.arity (count_of 97 w) n.arity in
    let t = times_le f.timestamp (count_of 116 w) n.timestamp in
    let m = times_le f.monotonic (count_of 109 w) n.monotonic in
    record {
      call = omega (arith, few w, e, c, s, r, a, t, m);
      send = omega (arith, few w, e, c, s, r, a, t, m);
      receive = omega (arith, few w, e, c, s, r, a, t, m);
      arity = omega (arith, few w, e, c, s, r, a, t, m);
      timestamp = omega (arith, few w, e, c, s, r, a, t, m);
      monotonic = omega (arith, few w, e, c, s, r, a, t, m);
      others = e;
    }

-- whether a letter stands there
pub stands_there : (letter : ℕ) (w : List ℕ) → (list_any (λ y. nat_eq y letter) w ≡ true → 0 < count_of letter w) × (0 < count_of letter w → list_any (λ y. nat_eq y letter) w ≡ true)
stands_there letter [] = (λ e. cc, λ some. absurd (omega (arith, some)))
stands_there letter (x ∷ xs) =
    let more = stands_there letter xs in
    elim (none_or_it letter x) [
      | inl z ↦ (grind (arith, nat_tests, count_more letter x xs, more.0, z), grind (arith, nat_tests, count_more letter x xs, more.1, z))
      | inr e ↦ (grind (arith, nat_tests, count_more letter x xs, e), grind (arith, nat_tests, e))
    ]

-- ---- one set of flags

times_one : (a b : Bool) (n : ℕ) → n ≡ times a → n ≡ times b → a ≡ b
times_one true true n h j = refl
times_one false false n h j = refl
times_one true false n h j = absurd (omega (arith, h, j))
times_one false true n h j = absurd (omega (arith, h, j))

same_letters : (w : List ℕ) (f g : Flags) → HasLetters w f → HasLetters w g → f ≡ g
same_letters w f g h j =
    ap (λ (b : Bool). let it : Flags = record { call = b; send = f.send; receive = f.receive; arity = f.arity; timestamp = f.timestamp; monotonic = f.monotonic } in it) (times_one f.call g.call _ h.call j.call)
    ∙ ap (λ (b : Bool). let it : Flags = record { call = g.call; send = b; receive = f.receive; arity = f.arity; timestamp = f.timestamp; monotonic = f.monotonic } in it) (times_one f.send g.send _ h.send j.send)
    ∙ ap (λ (b : Bool). let it : Flags = record { call = g.call; send = g.send; receive = b; arity = f.arity; timestamp = f.timestamp; monotonic = f.monotonic } in it) (times_one f.receive g.receive _ h.receive j.receive)
    ∙ ap (λ (b : Bool). let it : Flags = record { call = g.call; send = g.send; receive = g.receive; arity = b; timestamp = f.timestamp; monotonic = f.monotonic } in it) (times_one f.arity g.arity _ h.arity j.arity)
    ∙ ap (λ (b : Bool). let it : Flags = record { call = g.call; send = g.send; receive = g.receive; arity = g.arity; timestamp = b; monotonic = f.monotonic } in it) (times_one f.timestamp g.timestamp _ h.timestamp j.timestamp)
    ∙ ap (λ (b : Bool). let it : Flags = record { call = g.call; send = g.send; receive = g.receive; arity = g.arity; timestamp = g.timestamp; monotonic = b } in it) (times_one f.monotonic g.monotonic _ h.monotonic j.monotonic)

as_parts : (w : List ℕ) (f : Flags) → IsFlags w f → ((w ≡ codes "-") × HasLetters [] f) ⊎ ((0 < length w) × HasLetters w f)
as_parts w f (IsFlags.none g h) = inl (refl, h)
as_parts w f (IsFlags.some v g some h) = inr (some, h)

no_dash : (w : List ℕ) (f : Flags) → w ≡ codes "-" → HasLetters w f → ⊥
no_dash w f e h =
    let j : HasLetters (codes "-") f = subst (λ (v : List ℕ). HasLetters v f) e h in
    let c : count_of 99 (codes "-") ≡ 0 = refl in
    let s : count_of 115 (codes "-") ≡ 0 = refl in
    let r : count_of 114 (codes "-") ≡ 0 = refl in
    let a : count_of 97 (codes "-") ≡ 0 = refl in
    let t : count_of 116 (codes "-") ≡ 0 = refl in
    let m : count_of 109 (codes "-") ≡ 0 = refl in
    let l : length (codes "-") ≡ 1 = refl in
    omega (arith, l, c, s, r, a, t, m, j.call, j.send, j.receive, j.arity, j.timestamp, j.monotonic, j.others)

pub only_flags : (w : List ℕ) (f g : Flags) → IsFlags w f → IsFlags w g → f ≡ g
only_flags w f g h j =
    elim (as_parts w f h) [
      | inl p ↦ elim (as_parts w g j) [ inl q ↦ same_letters [] f g p.1 q.1 | inr q ↦ absurd (no_dash w g p.0 q.1) ]
      | inr p ↦ elim (as_parts w g j) [ inl q ↦ absurd (no_dash w f q.0 p.1) | inr q ↦ same_letters w f g p.1 q.1 ]
    ]

pub no_letters : HasLetters [] (record { call = false; send = false; receive = false; arity = false; timestamp = false; monotonic = false })
no_letters = record { call = refl; send = refl; receive = refl; arity = refl; timestamp = refl; monotonic = refl; others = refl }

pub dash : (word : List ℕ) (flags : Flags) → word ≡ codes "-" → HasLetters [] flags → IsFlags word flags
dash word flags e h = subst (λ (w : List ℕ). IsFlags w flags) (sym e) (IsFlags.none flags h)

pub by_letters : (w : List ℕ) (f : Flags) → w ≢ codes "-" → IsFlags w f → HasLetters w f
by_letters w f other h = elim (as_parts w f h) [ inl p ↦ absurd (other p.0) | inr p ↦ p.1 ]

-- of the letters what of the word
pub flags_found : (w letters : List ℕ) (o : Option Flags) → letters ≡ w → w ≢ codes "-" → 0 < length w → IsFound (HasLetters letters) o → IsFound (IsFlags w) o
flags_found w letters (Some f) e other some h = IsFlags.some w f some (subst (λ (v : List ℕ). HasLetters v f) e h)
flags_found w letters None e other some h = λ f k. h f (subst (λ (v : List ℕ). HasLetters v f) (sym e) (by_letters w f other k))
