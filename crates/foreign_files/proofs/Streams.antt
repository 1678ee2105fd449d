-- What the first bytes of a text tell of the entry that begins it.
use Rattle.std.proofs.Common.{◌≡◌, ◌⊎◌, replicate, inl, inr, ⊎_elim, ℕ, zero, suc, ◌+◌, ◌-◌, ◌<◌, ◌≤◌, ◌^◌, min, List, [], ◌∷◌, ◌++◌, length, get_or, take, drop, refl, sym, ◌∙◌, ap, subst, arith, length-append, length-take, length-drop}
use Rattle.std.proofs.lemmas.Bool.{cases_lt}
use Rattle.std.proofs.lemmas.List.{get_or-take, get_or-drop, get_or_past, get_or_append_left, get_or-append_right, ext_get_or}
use Rattle.std.proofs.lemmas.Nat.{be_bytes_4, from_be_bytes-to_be_bytes_4}
use Rattle.std.specs.Int.{w32, to_be_bytes, from_be_bytes}
use Rattle.std.specs.List.{slice_range}
use Rattle.trace_store.specs.Disk.{IsBytes}
use Rattle.entry_codec.specs.Entries.{Entry, Message, Drop, spelling, size}
use Rattle.entry_codec.specs.Outcomes.{Begins, HasHead}
use Rattle.entry_codec.proofs.OutcomeLemmas.{begun, message_there, length-spelling}
use Rattle.foreign_files.specs.Foreign.{IsOfStream, BeginsStream}
use Rattle.foreign_files.specs.Standing.{IsHead}

-- ---- what stands after the first byte

-- the four bytes there are those of the head
same_four : (text head : List ℕ) (n : ℕ) → IsHead text n head → length head ≡ 36 → 5 ≤ n → take 4 (drop 1 head) ≡ take 4 (drop 1 text)
same_four text head n is six long =
    let one : length (take 4 (drop 1 head)) ≡ 4 = omega (arith, length-take 4 (drop 1 head), length-drop 1 head) in
    let two : length (take 4 (drop 1 text)) ≡ 4 = omega (arith, length-take 4 (drop 1 text), length-drop 1 text, is.long) in
    ext_get_or 0 (take 4 (drop 1 head)) (take 4 (drop 1 text)) (one ∙ sym two)
    (λ k below.
    let near : k < 4 = omega (arith, below, one) in
    get_or-take 4 (drop 1 head) k 0 near ∙ get_or-drop 1 head k 0 ∙ is.same (1 + k) (omega (arith, near)) ∙ sym (get_or-drop 1 text k 0) ∙ sym (get_or-take 4 (drop 1 text) k 0 near))

four_bytes : (text : List ℕ) → IsBytes text → IsBytes (take 4 (drop 1 text))
four_bytes text bytes i = elim (cases_lt i 4) [
  | inl near ↦ subst (λ (b : ℕ). b < 256) (sym (get_or-take 4 (drop 1 text) i 0 near ∙ get_or-drop 1 text i 0)) (bytes (1 + i))
  | inr far ↦ subst (λ (b : ℕ). b < 256) (sym (get_or_past (take 4 (drop 1 text)) i 0 (omega (arith, far, length-take 4 (drop 1 text))))) (omega arith)
]

-- a text with a first byte and four more
five : (text : List ℕ) (op : ℕ) (four : List ℕ) → 5 ≤ length text → get_or text 0 0 ≡ op → take 4 (drop 1 text) ≡ four → take 5 text ≡ op ∷ four
five [] op four long first rest = absurd (omega (arith, long))
five (b ∷ text) op four long first rest = ap (λ (k : ℕ). k ∷ take 4 text) first ∙ ap (λ (l : List ℕ). op ∷ l) rest

head_there : (text head : List ℕ) (n op number : ℕ) → IsHead text n head → length head ≡ 36 → 5 ≤ n → get_or head 0 0 ≡ op → number ≡ from_be_bytes w32 (take 4 (drop 1 head)) → HasHead op number text
head_there text head n op number is six long first number_is =
    let same = same_four text head n is six long in
    let four : length (take 4 (drop 1 text)) ≡ 4 = omega (arith, length-take 4 (drop 1 text), length-drop 1 text, is.long) in
    let spelt : to_be_bytes w32 number ≡ take 4 (drop 1 text) = be_bytes_4 (take 4 (drop 1 text)) number four (four_bytes text is.bytes) (number_is ∙ ap (λ (l : List ℕ). from_be_bytes w32 l) same) in
    five text op (to_be_bytes w32 number) (omega (arith, long, is.long)) (sym (is.same 0 (omega arith)) ∙ first) (sym spelt)

-- ---- an entry that begins a text

-- the number after its first byte
number_of : Entry → ℕ
number_of (Message bytes) = length bytes
number_of (Drop count) = count

begun_long : (e : Entry) (text : List ℕ) → Begins e text → size e ≤ length text
begun_long e text begins = omega (arith, ap (λ (l : List ℕ). length l) (begun e text begins), length-append (spelling e) (drop (size e) text), length-spelling e)

-- a drop record
drop_stream : (text head : List ℕ) (n number : ℕ) → IsHead text n head → length head ≡ 36 → 5 ≤ n → get_or head 0 0 ≡ 1 → number ≡ from_be_bytes w32 (take 4 (drop 1 head)) → number < 2 ^ 32 → 0 < number → BeginsStream text
drop_stream text head n number is six long first number_is fits some =
    record { entry = Drop number; kind = tt; begins = record { lawful = (some, fits); is = head_there text head n 1 number is six long first number_is } }

-- a message
message_stream : (text head : List ℕ) (n number : ℕ) → IsHead text n head → length head ≡ 36 → 5 ≤ n → get_or head 0 0 ≡ 0 → number ≡ from_be_bytes w32 (take 4 (drop 1 head)) → 0 < number → number ≤ 65531 → get_or head 5 0 ≡ 131 → number ≤ n - 5 → BeginsStream text
message_stream text head n number is six long first number_is some most version room = record {
  entry = Message (take number (drop 5 text));
  kind = get_or-take number (drop 5 text) 0 0 some ∙ get_or-drop 5 text 0 0 ∙ sym (is.same 5 (omega arith)) ∙ version;
  begins = message_there number text (head_there text head n 0 number is six long first number_is) most (omega (arith, long, room, is.long));
}

-- what begins a text is told by its first bytes
number_back : (m : ℕ) (text rest : List ℕ) (op : ℕ) → m < 2 ^ 32 → text ≡ op ∷ (to_be_bytes w32 m ++ rest) → from_be_bytes w32 (take 4 (drop 1 text)) ≡ m
number_back m text rest op fits is = ap (λ (l : List ℕ). from_be_bytes w32 (take 4 (drop 1 l))) is ∙ from_be_bytes-to_be_bytes_4 m fits

pub record ToldStream (op number version n : ℕ) : Type 0 where
  pub long : 5 ≤ n
  pub why : ((op ≡ 1) × (0 < number)) ⊎ ((op ≡ 0) × (0 < number) × (number ≤ 65531) × (version ≡ 131) × (number ≤ n - 5))

told_entry : (e : Entry) (text : List ℕ) → IsOfStream e → Begins e text → ToldStream (get_or text 0 0) (from_be_bytes w32 (take 4 (drop 1 text))) (get_or text 5 0) (length text)
told_entry (Drop count) text kind begins =
    let is = begun (Drop count) text begins in
    let long = begun_long (Drop count) text begins in
    let number = number_back count text (drop 5 text) 1 begins.lawful.1 is in
    record { long = long; why = inl (ap (λ (l : List ℕ). get_or l 0 0) is, subst (λ (k : ℕ). 0 < k) (sym number) begins.lawful.0) }
told_entry (Message bytes) text kind begins =
    let is = begun (Message bytes) text begins in
    let long = begun_long (Message bytes) text begins in
    let number = number_back (length bytes) text (bytes ++ drop (5 + length bytes) text) 0 (omega (arith, begins.lawful)) is in
    let some : 0 < length bytes = elim (cases_lt 0 (length bytes)) [
      | inl some ↦ some
      | inr none ↦ absurd (let z = get_or_past bytes 0 0 none in omega (arith, z, kind))
    ] in
    record {
      long = omega (arith, long);
      why = inr (
        ap (λ (l : List ℕ). get_or l 0 0) is,
        subst (λ (k : ℕ). 0 < k) (sym number) some,
        subst (λ (k : ℕ). k ≤ 65531) (sym number) begins.lawful,
        ap (λ (l : List ℕ). get_or l 5 0) is ∙ get_or_append_left bytes (drop (5 + length bytes) text) 0 0 some ∙ kind,
        omega (arith, number, long),
      );
    }

-- the same by the head
pub told_stream : (text head : List ℕ) (n number : ℕ) → IsHead text n head → length head ≡ 36 → (5 ≤ n → number ≡ from_be_bytes w32 (take 4 (drop 1 head))) → BeginsStream text → ToldStream (get_or head 0 0) number (get_or head 5 0) n
told_stream text head n number is six number_is stream =
    let told = told_entry stream.entry text stream.kind stream.begins in
    let long : 5 ≤ n = omega (arith, told.long, is.long) in
    let same : from_be_bytes w32 (take 4 (drop 1 text)) ≡ number = ap (λ (l : List ℕ). from_be_bytes w32 l) (sym (same_four text head n is six long)) ∙ sym (number_is long) in
    subst (λ (k : ℕ). ToldStream (get_or head 0 0) number (get_or head 5 0) k) is.long
    (subst (λ (k : ℕ). ToldStream (get_or head 0 0) number k (length text)) (sym (is.same 5 (omega arith)))
    (subst (λ (k : ℕ). ToldStream (get_or head 0 0) k (get_or text 5 0) (length text)) same
    (subst (λ (k : ℕ). ToldStream k (from_be_bytes w32 (take 4 (drop 1 text))) (get_or text 5 0) (length text)) (sym (is.same 0 (omega arith))) told)))

pub told_back : (text head : List ℕ) (n number : ℕ) → IsHead text n head → length head ≡ 36 → number ≡ from_be_bytes w32 (take 4 (drop 1 head)) → number < 2 ^ 32 → ToldStream (get_or head 0 0) number (get_or head 5 0) n → BeginsStream text
told_back text head n number is six number_is fits told = ⊎_elim
    (λ one. drop_stream text head n number is six told.long one.0 number_is fits one.1)
    (λ zero. message_stream text head n number is six told.long zero.0 number_is zero.1 zero.2 zero.3 zero.4)
    told.why

-- ---- the first bytes as they are read

-- what there is before a read
abbrev pub no_bytes : List ℕ
no_bytes = replicate 36 0

no_byte : (n k : ℕ) → get_or {A = ℕ} (replicate n 0) k 0 ≡ 0
no_byte zero k = refl
no_byte (suc n) zero = refl
no_byte (suc n) (suc k) = no_byte n k

pub head_read : (text bytes : List ℕ) (n count : ℕ) → n ≡ length text → IsBytes text → count ≡ min n 36 → bytes ≡ slice_range text 0 (0 + length (take count no_bytes)) → length bytes ≡ length (take count no_bytes) → IsHead text n (bytes ++ drop count no_bytes)
head_read text bytes n count long are is read sized =
    let six : length (take count no_bytes) ≡ count = omega (arith, length-take count no_bytes, is) in
    record {
      long = sym long;
      bytes = are;
      same = λ k below. elim (cases_lt k count) [
        | inl within ↦ get_or_append_left bytes (drop count no_bytes) 0 k (omega (arith, within, sized, six)) ∙ ap (λ (l : List ℕ). get_or l k 0) read
            ∙ ap (λ (j : ℕ). get_or (take j text) k 0) (let z : 0 + length (take count no_bytes) - 0 ≡ length (take count no_bytes) = omega arith in z)
            ∙ get_or-take (length (take count no_bytes)) text k 0 (omega (arith, within, six))
        | inr past ↦ get_or-append_right bytes (drop count no_bytes) count k 0 (sized ∙ six) past ∙ get_or-drop count no_bytes (k - count) 0 ∙ no_byte 36 (count + (k - count)) ∙ sym (get_or_past text k 0 (omega (arith, is, past, below, long)))
      ];
    }

-- where there are as many, they are the first bytes
pub head_is_first : (text head : List ℕ) (n : ℕ) → IsHead text n head → length head ≡ 36 → 37 ≤ n → head ≡ take 36 text
head_is_first text head n is sized long =
    let first : length (take 36 text) ≡ 36 = omega (arith, length-take 36 text, is.long, long) in
    ext_get_or 0 head (take 36 text) (sized ∙ sym first)
    (λ k below.
    let near : k < 36 = omega (arith, below, sized) in
    is.same k near ∙ sym (get_or-take 36 text k 0 near))
