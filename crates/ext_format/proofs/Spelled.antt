-- The canonical spelling is a spelling.
use Rattle.std.proofs.Common.{◌≡◌, ℕ, suc, ◌^◌, ◌<◌, ◌≤◌, Bool, true, false, cond, ltb, ℤ, pos, negsuc, List, [], ◌∷◌, ◌++◌, length, take, refl, sym, ap, subst, ◌∙◌, lit<, arith}
use Rattle.std.specs.Int.{w8, w16, w32, w64, to_be_bytes, to_le_bytes, cast_unsigned}
use Rattle.std.specs.Int.RustNames.{FitsSigned}
use Rattle.std.proofs.lemmas.Bool.{ltb-true, and_parts}
use Rattle.std.proofs.lemmas.List.{length-append}
use Rattle.trace_terms.specs.Data.{Data, int, atom, pid, tuple, list, binary, Members, no_members, member, depth}
use Rattle.ext_format.specs.Members.{integers, member_count}
use Rattle.ext_format.specs.Fits.{Fits, AllFit}
use Rattle.ext_format.specs.Spelling.{sized, little_endian, with_sign, IsText, AtomForm, small_atom_utf8, atom_utf8, Form, Forms, small_integer, integer, small_big, an_atom, new_pid, small_tuple, large_tuple, nil, string, a_list, a_binary, no_forms, form, Spells}
use Rattle.ext_format.specs.Canonical.{digit_count, big_form, integer_form, atom_form, arity_form, is_byte, byte_value, are_bytes, byte_values, is_string, list_form, canonical_form, canonical_forms, canonical}
use Rattle.ext_format.proofs.FieldLaws.{one_byte}
use Rattle.ext_format.proofs.Sizes.{atom_form-longer, member_count_le, length-byte_values, list_form-empty, list_form-string, list_form-other, is_string-short, is_string-bytes, length-tuple, length-pid, length-list_form-other}

-- ---- texts

short_or_long : (text : List ℕ) (b : Bool) → ltb (length text) (2 ^ 8) ≡ b → IsText text → length text < 2 ^ 16 → AtomForm text (cond b (119 ∷ length text ∷ text) (118 ∷ sized w16 text))
short_or_long text true e is lt = subst (λ (n : List ℕ). AtomForm text (119 ∷ (n ++ text))) (one_byte (length text) (ltb-true _ _ e)) (small_atom_utf8 text is (ltb-true _ _ e))
short_or_long text false e is lt = atom_utf8 text is lt

atom_form-is : (text : List ℕ) → IsText text → length text < 2 ^ 16 → AtomForm text (atom_form text)
unfolding atom_form
atom_form-is text is lt = short_or_long text (ltb (length text) (2 ^ 8)) refl is lt

-- ---- integers

digits_4 : (n : ℕ) → n < 2 ^ 32 → little_endian (take 4 (to_le_bytes w64 n)) ≡ n
digits_4 n lt = omega arith

digits_5 : (n : ℕ) → n < 2 ^ 40 → little_endian (take 5 (to_le_bytes w64 n)) ≡ n
digits_5 n lt = omega arith

digits_6 : (n : ℕ) → n < 2 ^ 48 → little_endian (take 6 (to_le_bytes w64 n)) ≡ n
digits_6 n lt = omega arith

digits_7 : (n : ℕ) → n < 2 ^ 56 → little_endian (take 7 (to_le_bytes w64 n)) ≡ n
digits_7 n lt = omega arith

digits_8 : (n : ℕ) → n < 2 ^ 64 → little_endian (take 8 (to_le_bytes w64 n)) ≡ n
digits_8 n lt = omega arith

abbrev BackAt : ℕ → ℕ → Type 0
BackAt n k = (little_endian (take k (to_le_bytes w64 n)) ≡ n) × (length (take k (to_le_bytes w64 n)) ≡ k) × (k < 2 ^ 8)

back_if : (n limit k other : ℕ) (b : Bool) → ltb n limit ≡ b → (n < limit → BackAt n k) → BackAt n other → BackAt n (cond b k other)
back_if n limit k other true e below above = below (ltb-true n limit e)
back_if n limit k other false e below above = above

digits_back : (n : ℕ) → n < 2 ^ 64 → BackAt n (digit_count n)
digits_back n lt =
    back_if n (2 ^ 32) 4 _ (ltb n (2 ^ 32)) refl (λ below. (digits_4 n below, refl, lit< tt))
    (back_if n (2 ^ 40) 5 _ (ltb n (2 ^ 40)) refl (λ below. (digits_5 n below, refl, lit< tt))
    (back_if n (2 ^ 48) 6 _ (ltb n (2 ^ 48)) refl (λ below. (digits_6 n below, refl, lit< tt))
    (back_if n (2 ^ 56) 7 8 (ltb n (2 ^ 56)) refl (λ below. (digits_7 n below, refl, lit< tt)) (digits_8 n lt, refl, lit< tt))))

big_form-is : (sign size : ℕ) → sign < 2 ^ 8 → size < 2 ^ 64 → FitsSigned w64 (with_sign sign size) → Form (int (with_sign sign size)) (big_form sign size)
unfolding big_form
big_form-is sign size small lt fits =
    let digits = take (digit_count size) (to_le_bytes w64 size) in
    let back = digits_back size lt in
    let count : to_be_bytes w8 (length digits) ≡ digit_count size ∷ [] = ap (to_be_bytes w8) back.1 ∙ one_byte (digit_count size) back.2 in
    let shape : (to_be_bytes w8 (length digits) ++ to_be_bytes w8 sign) ++ digits ≡ digit_count size ∷ sign ∷ digits = ap (λ (x : List ℕ). (x ++ to_be_bytes w8 sign) ++ digits) count ∙ ap (λ (x : List ℕ). (digit_count size ∷ x) ++ digits) (one_byte sign small) in
    let fits_back : FitsSigned w64 (with_sign sign (little_endian digits)) = subst (λ (n : ℕ). FitsSigned w64 (with_sign sign n)) (sym back.0) fits in
    let made : Form (int (with_sign sign (little_endian digits))) (110 ∷ ((to_be_bytes w8 (length digits) ++ to_be_bytes w8 sign) ++ digits)) = small_big sign digits small (rw back.1 back.2) fits_back in
    subst (λ (n : ℕ). Form (int (with_sign sign n)) (110 ∷ (digit_count size ∷ sign ∷ digits))) back.0 (subst (λ (x : List ℕ). Form (int (with_sign sign (little_endian digits))) (110 ∷ x)) shape made)

by_test : (P : List ℕ → Type 0) (b : Bool) (x y : List ℕ) → (b ≡ true → P x) → (b ≡ false → P y) → P (cond b x y)
by_test P true x y p q = p refl
by_test P false x y p q = q refl

integer_form-is : (z : ℤ) → FitsSigned w64 z → Form (int z) (integer_form z)
unfolding integer_form
integer_form-is (pos n) fits =
    let lt : n < 2 ^ 63 = fits.sfits in
    by_test (Form (int (pos n))) (ltb n (2 ^ 8)) (97 ∷ n ∷ []) _
    (λ e. subst (λ (x : List ℕ). Form (int (pos n)) (97 ∷ x)) (one_byte n (ltb-true n (2 ^ 8) e)) (small_integer n (ltb-true n (2 ^ 8) e)))
    (λ _. by_test (Form (int (pos n))) (ltb n (2 ^ 31)) (98 ∷ to_be_bytes w32 n) (big_form 0 n)
    (λ e. integer (pos n) (record { sfits = ltb-true n (2 ^ 31) e }))
    (λ _. big_form-is 0 n (lit< tt) (omega arith) fits))
integer_form-is (negsuc n) fits =
    let lt : n < 2 ^ 63 = fits.sfits in
    by_test (Form (int (negsuc n))) (ltb n (2 ^ 31)) (98 ∷ to_be_bytes w32 (cast_unsigned w32 (negsuc n))) (big_form 1 (suc n))
    (λ e. integer (negsuc n) (record { sfits = ltb-true n (2 ^ 31) e }))
    (λ _. big_form-is 1 (suc n) (lit< tt) (omega arith) fits)

-- ---- tuples and lists

tuple_is : (ts : Members) (forms : List ℕ) → Forms ts forms → member_count ts < 2 ^ 32 → Form (tuple ts) (arity_form (member_count ts) ++ forms)
unfolding arity_form
tuple_is ts forms are lt =
    let n = member_count ts in
    by_test (λ (x : List ℕ). Form (tuple ts) (x ++ forms)) (ltb n (2 ^ 8)) (104 ∷ n ∷ []) (105 ∷ to_be_bytes w32 n)
    (λ e. subst (λ (x : List ℕ). Form (tuple ts) (104 ∷ (x ++ forms))) (one_byte n (ltb-true n (2 ^ 8) e)) (small_tuple ts forms are (ltb-true n (2 ^ 8) e)))
    (λ _. large_tuple ts forms are lt)

byte_is : (t : Data) → is_byte t ≡ true → int (pos (byte_value t)) ≡ t
byte_is (int (pos n)) e = refl
byte_is (int (negsuc n)) e = absurd cc
byte_is (atom text) e = absurd cc
byte_is (pid p) e = absurd cc
byte_is (tuple ts) e = absurd cc
byte_is (list ts) e = absurd cc
byte_is (binary bytes) e = absurd cc

bytes_are : (ts : Members) → are_bytes ts ≡ true → integers (byte_values ts) ≡ ts
bytes_are no_members e = refl
bytes_are (member t ts) e =
    let both = and_parts (is_byte t) (are_bytes ts) e in
    let first = byte_is t both.0 in
    let others = bytes_are ts both.1 in
    cc

string_is : (ts : Members) (forms : List ℕ) → 0 < member_count ts → is_string ts ≡ true → Form (list ts) (list_form ts forms)
string_is ts forms some is =
    let bytes = byte_values ts in
    let len = length-byte_values ts in
    let short = is_string-short ts is in
    let made : Form (list (integers bytes)) (107 ∷ sized w16 bytes) = string bytes (omega arith) in
    let named : Form (list ts) (107 ∷ sized w16 bytes) = subst (λ (ms : Members). Form (list ms) (107 ∷ sized w16 bytes)) (bytes_are ts (is_string-bytes ts is)) made in
    let counted : Form (list ts) (107 ∷ (to_be_bytes w16 (member_count ts) ++ bytes)) = subst (λ (n : ℕ). Form (list ts) (107 ∷ (to_be_bytes w16 n ++ bytes))) len named in
    subst (λ (x : List ℕ). Form (list ts) x) (sym (list_form-string ts forms some is)) counted

empty_is : (forms : List ℕ) → Form (list no_members) (list_form no_members forms)
empty_is forms = subst (λ (x : List ℕ). Form (list no_members) x) (sym (list_form-empty no_members forms refl)) nil

list_is : (ts : Members) (forms : List ℕ) (b : Bool) → is_string ts ≡ b → 0 < member_count ts → (b ≡ false → Forms ts forms × (member_count ts < 2 ^ 32)) → Form (list ts) (list_form ts forms)
list_is ts forms true is some are = string_is ts forms some is
list_is ts forms false is some are = let both = are refl in subst (λ (x : List ℕ). Form (list ts) x) (sym (list_form-other ts forms some is)) (a_list ts forms both.0 both.1)

mutual
  form_is : (t : Data) → Fits t → length (canonical_form t) < 2 ^ 16 → Form t (canonical_form t)
  form_is (int z) fits len = integer_form-is z fits
  form_is (atom text) fits len = an_atom text (atom_form text) (atom_form-is text fits (omega (arith, atom_form-longer text)))
  form_is (pid p) fits len = new_pid p (atom_form p.node) (atom_form-is p.node fits.0 (omega (arith, length-pid p, atom_form-longer p.node))) fits.1
  form_is (tuple ts) fits len = tuple_is ts (canonical_forms ts) (forms_are ts fits (omega (arith, length-tuple ts))) (omega (arith, length-tuple ts, member_count_le ts))
  form_is (list no_members) fits len = empty_is (canonical_forms no_members)
  form_is (list (member t ts)) fits len =
      list_is (member t ts) (canonical_forms (member t ts)) (is_string (member t ts)) refl (omega arith)
      (λ other. (
        forms_are (member t ts) fits (omega (arith, length-list_form-other (member t ts) (canonical_forms (member t ts)) (omega arith) other)),
        omega (arith, member_count_le (member t ts), length-list_form-other (member t ts) (canonical_forms (member t ts)) (omega arith) other),
      ))
  form_is (binary bytes) fits len = a_binary bytes (omega (arith, length-append (to_be_bytes w32 (length bytes)) bytes))

  forms_are : (ts : Members) → AllFit ts → length (canonical_forms ts) < 2 ^ 16 → Forms ts (canonical_forms ts)
  forms_are no_members fits len = no_forms
  forms_are (member t ts) fits len =
      let both = length-append (canonical_form t) (canonical_forms ts) in
      form t ts (canonical_form t) (canonical_forms ts) (form_is t fits.0 (omega (arith, both))) (forms_are ts fits.1 (omega (arith, both)))

pub canonical_spells : (t : Data) → Fits t → depth t ≤ 64 → length (canonical t) ≤ 65531 → Spells t (canonical t)
canonical_spells t fits shallow short = record { form = canonical_form t; is_form = form_is t fits (omega arith); behind_version = refl; not_too_deep = shallow }
