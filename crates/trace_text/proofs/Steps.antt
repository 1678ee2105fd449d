-- Steps of reading: what one that succeeded gave, and how one fails.
use Rattle.std.proofs.Common.{◌≡◌, ℕ, ◌<◌, List, [], ◌++◌, length, take, drop, take_all, Result, Ok, Err, refl, sym, ap, subst, ◌∙◌, append_assoc, append-nil, arith}
use Rattle.std.proofs.Math.Seq.{take-append_seam, drop-append_seam}
use Rattle.std.specs.Int.{Width, to_be_bytes}
use Rattle.ext_format.specs.declared.fault.DecodeFault.{DecodeFault}
use Rattle.ext_format.specs.declared.fault.DecodeFault.TheVariants.{NoMemory}
use Rattle.ext_format.specs.Reading.{◌>>=◌, Fails, Read, number_at}
use Rattle.ext_format.proofs.FieldLaws.{IsBytes, ok_is, Takes, IsWide, number_takes}

-- ---- what was read

abbrev one : {Y R : Type 0} → Y → R → Result (Y × R) DecodeFault
one y rest = Ok (y, rest)

abbrev two : {Y Z R : Type 0} → Y → Z → R → Result (Y × (Z × R)) DecodeFault
two y z rest = Ok (y, (z, rest))

-- what was made of what was read
pub record Made {X Y R : Type 0} (read : Result (X × R) DecodeFault) (f : X → Y) (made : Y) (rest : R) : Type 0 where
  pub of : X
  pub is : read ≡ Ok (of, rest)
  pub by : made ≡ f of

pub made_is : {X Y R : Type 0} (read : Result (X × R) DecodeFault) (f : X → Y) (made : Y) (rest : R) → (read >>= λ x. one (f x.0) x.1) ≡ one made rest → Made read f made rest
made_is (Ok x) f made rest e =
    let same : (f x.0, x.1) ≡ (made, rest) = ok_is (f x.0, x.1) (made, rest) e in
    record { of = x.0; is = ap (λ r. Ok (x.0, r)) (ap (λ p. p.1) same); by = sym (ap (λ p. p.0) same) }
made_is (Err d) f made rest e = absurd cc

-- two things that were made of what was read
pub record Both {X Y Z R : Type 0} (read : Result (X × R) DecodeFault) (f : X → Y) (g : X → Z) (first : Y) (second : Z) (rest : R) : Type 0 where
  pub of : X
  pub is : read ≡ Ok (of, rest)
  pub first_is : first ≡ f of
  pub second_is : second ≡ g of

pub both_are : {X Y Z R : Type 0} (read : Result (X × R) DecodeFault) (f : X → Y) (g : X → Z) (first : Y) (second : Z) (rest : R) → (read >>= λ x. two (f x.0) (g x.0) x.1) ≡ two first second rest
    → Both read f g first second rest
both_are (Ok x) f g first second rest e =
    let same : (f x.0, (g x.0, x.1)) ≡ (first, (second, rest)) = ok_is (f x.0, (g x.0, x.1)) (first, (second, rest)) e in
    record { of = x.0; is = ap (λ r. Ok (x.0, r)) (ap (λ p. p.1.1) same); first_is = sym (ap (λ p. p.0) same); second_is = sym (ap (λ p. p.1.0) same) }
both_are (Err d) f g first second rest e = absurd cc

-- ---- faults

-- one reading fails as another does
pub fails_as : {X Y : Type 0} (d : DecodeFault) (r : Result X DecodeFault) (s : Result Y DecodeFault) → (r ≡ Err d → s ≡ Err d) → Fails d r → Fails d s
fails_as NoMemory r s f h = tt
fails_as d r s f h = f h

-- a step after one that failed
pub fails_then : {X Y : Type 0} (d : DecodeFault) (r : Result X DecodeFault) (f : X → Result Y DecodeFault) → Fails d r → Fails d (r >>= f)
fails_then d r f h = fails_as d r (r >>= f) (λ e. ap (λ x. x >>= f) e) h

pub mapped_err : {X Y : Type 0} (d : DecodeFault) (r : Result X DecodeFault) (f : X → Y) → (r >>= λ x. Ok (f x)) ≡ Err d → r ≡ Err d
mapped_err d (Ok x) f e = absurd cc
mapped_err d (Err g) f e = cc

-- what only changes the value fails as the reading does
pub fails_mapped : {X Y : Type 0} (d : DecodeFault) (r : Result X DecodeFault) (f : X → Y) → Fails d (r >>= λ x. Ok (f x)) → Fails d r
fails_mapped d r f h = fails_as d (r >>= λ x. Ok (f x)) r (mapped_err d r f) h

-- a fault that isn't for want of memory is that of reading
pub fault_is : {X : Type 0} (d : DecodeFault) (r : Result X DecodeFault) → (d ≡ NoMemory → ⊥) → Fails d r → r ≡ Err d
fault_is NoMemory r not h = absurd (not refl)
fault_is d r not h = h

-- ---- whatever is read

-- what holds of whatever is read
abbrev pub Each : {X : Type 0} → (X → Type 0) → Result X DecodeFault → Type 0
Each {X} P read = (x : X) → read ≡ Ok x → P x

pub just : {X : Type 0} (P : X → Type 0) (x : X) → P x → Each P (Ok x)
just P x p y e = subst P (ok_is x y e) p

-- a step after another
pub after : {X Y : Type 0} (P : Y → Type 0) (read : Result X DecodeFault) (f : X → Result Y DecodeFault) → ((x : X) → read ≡ Ok x → Each P (f x)) → Each P (read >>= f)
after P (Ok x) f h = h x refl
after P (Err d) f h = λ y e. absurd cc

-- the bytes of what was read, and what they spell
pub record Taken {X : Type 0} (Form : X → List ℕ → Type 0) (bytes : List ℕ) (x : X) (rest : List ℕ) : Type 0 where
  pub fields : List ℕ
  pub is_form : Form x fields
  pub taken : Takes bytes fields rest

-- whatever is read is spelled by the bytes that it takes
abbrev pub Spelt : {X : Type 0} → (X → List ℕ → Type 0) → List ℕ → Read X → Type 0
Spelt {X} Form bytes read = Each (λ (x : X × List ℕ). Taken Form bytes x.0 x.1) read

module _ {X : Type 0} (Form : X → List ℕ → Type 0) (bytes : List ℕ) where
  pub next : {Y : Type 0} (read : Result Y DecodeFault) (f : Y → Read X) → ((y : Y) → read ≡ Ok y → Spelt Form bytes (f y)) → Spelt Form bytes (read >>= f)
  next read f h = after (λ (x : X × List ℕ). Taken Form bytes x.0 x.1) read f h

  pub spelt : (x : X) (rest fields : List ℕ) → Form x fields → Takes bytes fields rest → Spelt Form bytes (Ok (x, rest))
  spelt x rest fields is taken = just (λ (x : X × List ℕ). Taken Form bytes x.0 x.1) (x, rest) (record { fields = fields; is_form = is; taken = taken })

  -- what was made of what was read
  pub made : {Y : Type 0} (f : Y → X) (read : Read Y) → Spelt (λ y. Form (f y)) bytes read → Spelt Form bytes (read >>= λ y. Ok (f y.0, y.1))
  made f read is = next read (λ y. Ok (f y.0, y.1)) (λ y e. let t = is y e in spelt (f y.0) y.1 t.fields t.is_form t.taken)

pub number_spelt : (Form : ℕ → List ℕ → Type 0) (w : Width) (limit : ℕ) (wide : IsWide w limit) (bytes : List ℕ) → IsBytes bytes → ((n : ℕ) → n < limit → Form n (to_be_bytes w n)) → Spelt Form bytes (number_at w bytes)
number_spelt Form w limit wide bytes fits form x e = let t = number_takes w limit wide bytes x.0 x.1 fits e in record { fields = to_be_bytes w x.0; is_form = form x.0 t.1; taken = t.0 }

-- ---- what is put

-- three texts, one after the other
pub bracketed : (line opening text close one two three : List ℕ) → one ≡ line ++ opening → two ≡ one ++ text → three ≡ two ++ close → three ≡ line ++ (opening ++ text ++ close)
bracketed line opening text close one two three is_one is_two is_three =
    is_three ∙ ap (λ (l : List ℕ). l ++ close) is_two ∙ ap (λ (l : List ℕ). (l ++ text) ++ close) is_one
    ∙ append_assoc (line ++ opening) text close ∙ append_assoc line opening (text ++ close) ∙ ap (λ (l : List ℕ). line ++ l) (sym (append_assoc opening text close))

-- what was seen before the members, and of them
pub seen_before : {S : Type 0} (seen gs several : List S) (before : ℕ) → before ≡ length seen → gs ≡ seen ++ several → take before gs ≡ seen
seen_before seen gs several before counted is = rw (counted, is) (take-append_seam seen several)

pub seen_of : {S : Type 0} (seen gs several : List S) (before : ℕ) → before ≡ length seen → gs ≡ seen ++ several → drop before gs ≡ several
seen_of seen gs several before counted is = rw (counted, is) (drop-append_seam seen several)

-- ---- the whole

-- what spells a term is read as that term, whatever stands after it
module _ {T : Type 0} (Spells : T → List ℕ → Type 0) (whole : List ℕ → Result (T × ℕ) DecodeFault) (again : (t : T) (bytes rest : List ℕ) → Spells t bytes → whole (bytes ++ rest) ≡ Ok (t, length bytes)) where
  whole_is : (t : T) (bytes : List ℕ) → Spells t bytes → whole bytes ≡ Ok (t, length bytes)
  whole_is t bytes is = subst (λ (read : List ℕ). whole read ≡ Ok (t, length bytes)) (append-nil bytes) (again t bytes [] is)

  -- what is read from a part of the bytes leaves no spelling that takes them all
  pub other_size : (bytes : List ℕ) (t : T) (n : ℕ) → whole bytes ≡ Ok (t, n) → (n ≡ length bytes → ⊥) → (u : T) → Spells u bytes → ⊥
  other_size bytes t n read differs u is =
      let e : (t, n) ≡ (u, length bytes) = ok_is (t, n) (u, length bytes) (sym read ∙ whole_is u bytes is) in
      differs (ap (λ (x : T × ℕ). x.1) e)

  pub not_read : (bytes : List ℕ) (e : DecodeFault) → whole bytes ≡ Err e → (u : T) → Spells u bytes → ⊥
  not_read bytes e read u is = let same = whole_is u bytes is in absurd (cc)

-- what is read of all the bytes is spelled by them
pub spells_whole : {T : Type 0} (Spells : T → List ℕ → Type 0) (bytes : List ℕ) (t : T) (n : ℕ) → Spells t (take n bytes) → n ≡ length bytes → Spells t bytes
spells_whole Spells bytes t n is all = subst (Spells t) (ap (λ (n : ℕ). take n bytes) all ∙ take_all (length bytes) bytes (omega arith)) is
