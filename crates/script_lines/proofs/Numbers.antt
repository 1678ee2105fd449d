-- Numbers in decimal, and the bytes of hexadecimal digits.
use Rattle.std.proofs.Common.{arith, sym, ◌∙◌, ap, subst, ◌≡◌, ◌≢◌, ℕ, zero, suc, ◌<◌, ◌≤◌, ◌^◌, ◌/◌, ◌%◌, Bool, true, false, Option, None, Some, Result, Ok, Err, List, [], ◌∷◌, ◌++◌, length, get_or, drop, take, codes, append_assoc, append-nil, lit<, refl, inl, inr, ◌-◌, ◌==◌}
use Rattle.std.specs.Char.{is_ascii_digit, digit_value}
use Rattle.std.specs.List.{list_all}
use Rattle.std.specs.Fmt.{decimal, digit_glyph}
use Rattle.std.specs.Result.{OkIff, result_ok}
use Rattle.std.specs.Str.Parse.{AllDigits, digits_value, ParsesUnsigned}
use Rattle.std.proofs.lemmas.Str.Parse.{IsNumeralModel, numerals_by_value, tells_digits, parse_plain, digit_at, digit_from_value}
use Rattle.std.proofs.lemmas.List.{take_rest}
use Rattle.std.proofs.lemmas.Bool.{and_parts, and_from, cases_lt}
use Rattle.std.proofs.lemmas.Bool.Decides.{nat_tests}
use Rattle.std.specs.Int.{IsInRange}
use Rattle.std.proofs.lemmas.Fmt.{decimal_injective, decimal_digit, first_decimal, digits_decimal, decimal-digits_value, parse-decimal}
use Rattle.script_lines.specs.Spellings.{IsFound, IsFoundAs, IsNumber, IsDigit, IsHex, IsBytes}
use Rattle.std.specs.Str.{bytes_eq}
use Rattle.std.proofs.lemmas.Slice.Eq.{bytes_eq-Decides}

own : IsNumeralModel (AllDigits 10) (digits_value 10)
own = numerals_by_value (AllDigits 10) tells_digits

pub only_number : (word : List ℕ) (m n : ℕ) → IsNumber word m → IsNumber word n → m ≡ n
only_number word m n a b = decimal_injective m n a.small b.small (sym a.spelled ∙ b.spelled)

-- no number begins with a zero that another digit follows
pub not_zero_led : (word : List ℕ) (n : ℕ) → get_or word 0 0 ≡ 48 → 1 < length word → IsNumber word n → ⊥
not_zero_led word zero zero_first longer a =
    let e : word ≡ 48 ∷ [] = a.spelled ∙ decimal_digit 0 (lit< tt) in omega (arith, ap (λ (w : List ℕ). length w) e)
not_zero_led word (suc n) zero_first longer a =
    let k : 48 < get_or (decimal (suc n)) 0 0 = first_decimal (suc n) (omega arith) a.small in
    omega (arith, k, ap (λ (w : List ℕ). get_or w 0 0) a.spelled)

tested : (d : ℕ) → is_ascii_digit d ≡ true → (48 ≤ d) × (d ≤ 57)
tested d e = (grind (arith, nat_tests), grind (arith, nat_tests))

test : (d : ℕ) → 48 ≤ d → d ≤ 57 → is_ascii_digit d ≡ true
test d low high = grind (arith, nat_tests)

own_digit : (d : ℕ) → 48 ≤ d → d ≤ 57 → digit_value d < 10
own_digit d low high = grind (arith, nat_tests)

-- the test of the digits, both ways
digits_tested : (ds : List ℕ) → list_all is_ascii_digit ds ≡ true → AllDigits 10 ds
digits_tested [] e = tt
digits_tested (d ∷ ds) e =
    let p : (is_ascii_digit d ≡ true) × (list_all is_ascii_digit ds ≡ true) = and_parts (is_ascii_digit d) (list_all is_ascii_digit ds) e in
    let k : (48 ≤ d) × (d ≤ 57) = tested d p.0 in
    (own_digit d k.0 k.1, digits_tested ds p.1)

tested_digits : (ds : List ℕ) → AllDigits 10 ds → list_all is_ascii_digit ds ≡ true
tested_digits [] a = refl
tested_digits (d ∷ ds) a =
    let k : IsInRange 48 57 d = digit_from_value d a.0 in
    and_from (is_ascii_digit d) (list_all is_ascii_digit ds) (test d k.0 k.1) (tested_digits ds a.1)

pub not_digits : (word : List ℕ) (n : ℕ) → list_all is_ascii_digit word ≡ false → IsNumber word n → ⊥
not_digits word n e a =
    let t : list_all is_ascii_digit word ≡ true = tested_digits word (subst (AllDigits 10) (sym a.spelled) (digits_decimal own n a.small)) in cc

no_plus : (ds : List ℕ) → AllDigits 10 ds → get_or ds 0 0 ≢ 43
no_plus [] a e = omega (arith, e)
no_plus (d ∷ ds) a e = omega (arith, e, digit_at (d ∷ ds) 0 a (omega arith))

led_alone : (word : List ℕ) → ((get_or word 0 0 ≡ 48) → 1 < length word → ⊥) → 0 < length word → get_or word 0 0 ≡ 48 → length word ≡ 1
led_alone word first some zero_first = elim (cases_lt 1 (length word)) [ inl longer ↦ absurd (first zero_first longer) | inr short ↦ omega arith ]

found : {E : Type 0} (word : List ℕ) (r : Result ℕ E) → ParsesUnsigned 64 10 word r → OkIff r (AllDigits 10 word × (0 < length word) × (digits_value 10 word < 2 ^ 64)) (digits_value 10 word)
    → ((get_or word 0 0 ≡ 48) → 1 < length word → ⊥) → IsFound (IsNumber word) (result_ok r)
found word (Ok n) p k first =
    let e : decimal (digits_value 10 word) ≡ word = decimal-digits_value own word k.0.0 k.0.1 (led_alone word first k.0.1) k.0.2 in
    record { spelled = sym e ∙ ap decimal (sym k.1); small = rw k.1 k.0.2 }
found {E} word (Err fault) p k first = λ n a.
    let r : Result ℕ E = Err fault in let e : r ≡ Ok n = parse-decimal 64 n word r a.small a.small a.spelled p in cc

-- what `parse` gives of digits
pub parsed : {E : Type 0} (word : List ℕ) (r : Result ℕ E) (o : Option ℕ) → ParsesUnsigned 64 10 word r → list_all is_ascii_digit word ≡ true → ((get_or word 0 0 ≡ 48) → 1 < length word → ⊥)
    → o ≡ result_ok r → IsFound (IsNumber word) o
parsed {E} word r o p digits first e =
    let a : AllDigits 10 word = digits_tested word digits in
    let k : OkIff r (AllDigits 10 word × (0 < length word) × (digits_value 10 word < 2 ^ 64)) (digits_value 10 word) = parse_plain own 64 word r p (no_plus word a) in
    rw e (found word r p k first)

-- ---- bytes

two : (xs : List ℕ) → 2 ≤ length xs → length xs < 3 → xs ≡ get_or xs 0 0 ∷ get_or xs 1 0 ∷ []
two [] low high = absurd (omega arith)
two (x ∷ []) low high = absurd (omega arith)
two (x ∷ y ∷ []) low high = refl
two (x ∷ y ∷ z ∷ xs) low high = absurd (omega arith)

-- two digits spell one byte
pub one_byte : (word : List ℕ) (o : Option ℕ) → 2 ≤ length word → length word < 3 → IsFound (λ b. IsDigit (get_or word 0 0) (b / 16) × IsDigit (get_or word 1 0) (b % 16)) o
    → IsFound (λ (b : ℕ). IsHex word (b ∷ [])) o
one_byte word (Some b) low high h = rw (two word low high) (h.0, h.1, tt)
one_byte word None low high h = λ b k.
    let j : IsHex (get_or word 0 0 ∷ get_or word 1 0 ∷ []) (b ∷ []) = subst (λ (w : List ℕ). IsHex w (b ∷ [])) (two word low high) k in h b (j.0, j.1)

pub hex_of_two : (word : List ℕ) (b : ℕ) → IsHex word (b ∷ []) → length word ≡ 2
hex_of_two (x ∷ y ∷ []) b k = refl
hex_of_two (x ∷ y ∷ z ∷ []) b k = absurd k.2
hex_of_two (x ∷ y ∷ z ∷ w ∷ xs) b k = absurd k.2
hex_of_two (x ∷ []) b k = absurd k
hex_of_two [] b k = absurd k

glyph_lower : (d e : ℕ) → d < 16 → e < 16 → digit_glyph false d ≡ digit_glyph false e → d ≡ e
glyph_lower d e small below h = grind (arith, nat_tests)

glyph_upper : (d e : ℕ) → d < 16 → e < 16 → digit_glyph true d ≡ digit_glyph true e → d ≡ e
glyph_upper d e small below h = grind (arith, nat_tests)

glyph_mixed : (d e : ℕ) → d < 16 → e < 16 → digit_glyph false d ≡ digit_glyph true e → d ≡ e
glyph_mixed d e small below h = grind (arith, nat_tests)

-- a letter is one digit
pub only_digit : (letter d e : ℕ) → IsDigit letter d → IsDigit letter e → d ≡ e
only_digit letter d e a b =
    elim a.1 [
      | inl p ↦ elim b.1 [ inl q ↦ glyph_lower d e a.0 b.0 (sym p ∙ q) | inr q ↦ glyph_mixed d e a.0 b.0 (sym p ∙ q) ]
      | inr p ↦ elim b.1 [ inl q ↦ sym (glyph_mixed e d b.0 a.0 (sym q ∙ p)) | inr q ↦ glyph_upper d e a.0 b.0 (sym p ∙ q) ]
    ]

pub only_byte : (high low b c : ℕ) → IsDigit high (b / 16) → IsDigit low (b % 16) → IsDigit high (c / 16) → IsDigit low (c % 16) → b ≡ c
only_byte high low b c bh bl ch cl =
    let e : b / 16 ≡ c / 16 = only_digit high (b / 16) (c / 16) bh ch in
    let f : b % 16 ≡ c % 16 = only_digit low (b % 16) (c % 16) bl cl in omega (arith, e, f)

-- the digits so far spell the bytes so far, whatever follows
pub record IsBegun (digits rest found : List ℕ) : Type 0 where
  pub even : length rest % 2 ≡ 0
  pub goes_on : (bytes : List ℕ) → IsHex rest bytes → IsHex digits (found ++ bytes)
  pub only : (all : List ℕ) → IsHex digits all → (bytes : List ℕ) × (all ≡ found ++ bytes) × IsHex rest bytes

pub at_first : (digits : List ℕ) → length digits % 2 ≡ 0 → IsBegun digits digits []
at_first digits even = record { even = even; goes_on = λ bytes h. h; only = λ all h. (all, refl, h) }

more_than_two : (xs : List ℕ) → 2 ≤ length xs → xs ≡ get_or xs 0 0 ∷ get_or xs 1 0 ∷ drop 2 xs
more_than_two [] low = absurd (omega arith)
more_than_two (x ∷ []) low = absurd (omega arith)
more_than_two (x ∷ y ∷ xs) low = refl

hex_behind : (high low b : ℕ) (after bytes : List ℕ) → IsDigit high (b / 16) → IsDigit low (b % 16) → IsHex (high ∷ low ∷ after) bytes
    → (others : List ℕ) × (bytes ≡ b ∷ others) × IsHex after others
hex_behind high low b after [] h l k = absurd k
hex_behind high low b after (c ∷ others) h l k = (others, ap (λ x. x ∷ others) (only_byte high low c b k.0 k.1 h l), k.2)

pub one_more : (digits rest found : List ℕ) (b : ℕ) → IsBegun digits rest found → 2 ≤ length rest → IsDigit (get_or rest 0 0) (b / 16) → IsDigit (get_or rest 1 0) (b % 16)
    → IsBegun digits (drop 2 rest) (found ++ b ∷ [])
one_more digits rest found b i low h l =
    let e = more_than_two rest low in
    record {
      even = omega (arith, i.even, ap (λ (xs : List ℕ). length xs) e);
      goes_on = λ bytes k. rw append_assoc (i.goes_on (b ∷ bytes) (rw e (h, l, k)));
      only = λ all k.
          let j = i.only all k in
          let m = hex_behind (get_or rest 0 0) (get_or rest 1 0) b (drop 2 rest) j.0 h l (subst (λ (xs : List ℕ). IsHex xs j.0) e j.2) in
          (m.0, j.1 ∙ ap (λ xs. found ++ xs) m.1 ∙ sym (append_assoc found (b ∷ []) m.0), m.2);
    }

pub one_more_of : (digits rest found new : List ℕ) (b n : ℕ) → n ≡ length rest → IsBegun digits rest found → 2 ≤ length rest → IsDigit (get_or rest 0 0) (b / 16) × IsDigit (get_or rest 1 0) (b % 16)
    → new ≡ found ++ b ∷ [] → IsBegun digits (take (n - 2) (drop 2 rest)) new
one_more_of digits rest found new b n all i low h e =
    let k : take (n - 2) (drop 2 rest) ≡ drop 2 rest = rw all (take_rest rest 2) in
    rw (k, e) (one_more digits rest found b i low h.0 h.1)

nil_left : (rest : List ℕ) → length rest < 2 → length rest % 2 ≡ 0 → IsHex rest []
nil_left [] short even = tt
nil_left (x ∷ []) short even = absurd (omega arith)
nil_left (x ∷ y ∷ xs) short even = absurd (omega arith)

pub all_spelled : (digits rest found : List ℕ) → IsBegun digits rest found → length rest < 2 → IsHex digits found
all_spelled digits rest found i short = subst (λ (xs : List ℕ). IsHex digits xs) (append-nil found) (i.goes_on [] (nil_left rest short i.even))

even_hex : (word bytes : List ℕ) → IsHex word bytes → length word % 2 ≡ 0
even_hex [] [] h = refl
even_hex [] (b ∷ bytes) h = absurd h
even_hex (x ∷ []) bytes h = absurd h
even_hex (x ∷ y ∷ word) [] h = absurd h
even_hex (x ∷ y ∷ word) (b ∷ bytes) h = omega (arith, even_hex word bytes h.2)

-- no bytes are spelled so
pub odd : (word bytes : List ℕ) → word ≢ codes "-" → length word % 2 ≢ 0 → IsBytes word bytes → ⊥
odd word [] other odd_length h = other h
odd word (b ∷ bytes) other odd_length h = odd_length (even_hex word (b ∷ bytes) h)

pub blank : (word bytes : List ℕ) → word ≢ codes "-" → length word ≡ 0 → IsBytes word bytes → ⊥
blank word [] other e h = other h
blank [] (b ∷ bytes) other e h = absurd h
blank (x ∷ word) (b ∷ bytes) other e h = absurd (omega arith)

as_bytes : (word bytes : List ℕ) → 0 < length word → IsHex word bytes → IsBytes word bytes
as_bytes [] [] some h = absurd (omega arith)
as_bytes (x ∷ []) [] some h = absurd h
as_bytes (x ∷ y ∷ word) [] some h = absurd h
as_bytes word (b ∷ bytes) some h = h

as_hex : (word bytes : List ℕ) → word ≢ codes "-" → IsBytes word bytes → IsHex word bytes
as_hex word [] other h = absurd (other h)
as_hex word (b ∷ bytes) other h = h

-- of the digits what of the word
pub bytes_found : {V : Type 0} (items : V → List ℕ) (word : List ℕ) (o : Option V) → word ≢ codes "-" → 0 < length word → IsFoundAs items (IsHex word) o → IsFoundAs items (IsBytes word) o
bytes_found items word (Some v) other some h = as_bytes word (items v) some h
bytes_found items word None other some h = λ bytes k. h bytes (as_hex word bytes other k)

pub not_dash : (word : List ℕ) (r : Bool) → r ≡ bytes_eq word (codes "-") → r ≡ false → word ≢ codes "-"
not_dash word r e differs same = let k : bytes_eq word (codes "-") ≡ true = (bytes_eq-Decides word (codes "-")).1 same in cc

pub no_length : (xs ys : List ℕ) → xs ≡ ys → true ≡ (length xs == 0) → length ys ≡ 0
no_length xs ys e t = grind (arith, nat_tests)

pub some_length : (xs ys : List ℕ) → xs ≡ ys → false ≡ (length xs == 0) → 0 < length ys
some_length xs ys e t = grind (arith, nat_tests)

-- ---- digits spell one thing at most

only_hex : (word bytes others : List ℕ) → IsHex word bytes → IsHex word others → bytes ≡ others
only_hex [] [] [] h j = refl
only_hex [] [] (c ∷ cs) h j = absurd j
only_hex [] (b ∷ bs) others h j = absurd h
only_hex (x ∷ []) bytes others h j = absurd h
only_hex (x ∷ y ∷ word) [] others h j = absurd h
only_hex (x ∷ y ∷ word) (b ∷ bs) [] h j = absurd j
only_hex (x ∷ y ∷ word) (b ∷ bs) (c ∷ cs) h j = ap (λ (n : ℕ). n ∷ bs) (only_byte x y b c h.0 h.1 j.0 j.1) ∙ ap (λ (l : List ℕ). c ∷ l) (only_hex word bs cs h.2 j.2)

no_dash : (word : List ℕ) (b : ℕ) (bytes : List ℕ) → word ≡ codes "-" → IsHex word (b ∷ bytes) → ⊥
no_dash word b bytes e h = let j : IsHex (codes "-") (b ∷ bytes) = subst (λ (w : List ℕ). IsHex w (b ∷ bytes)) e h in j

pub only_bytes : (word bytes others : List ℕ) → IsBytes word bytes → IsBytes word others → bytes ≡ others
only_bytes word [] [] h j = refl
only_bytes word [] (c ∷ cs) h j = absurd (no_dash word c cs h j)
only_bytes word (b ∷ bs) [] h j = absurd (no_dash word b bs j h)
only_bytes word (b ∷ bs) (c ∷ cs) h j = only_hex word (b ∷ bs) (c ∷ cs) h j

pub only_pair : (word : List ℕ) (b c : ℕ) → IsHex word (b ∷ []) → IsHex word (c ∷ []) → b ≡ c
only_pair word b c h j = let e : b ∷ [] ≡ c ∷ [] = only_hex word (b ∷ []) (c ∷ []) h j in cc
