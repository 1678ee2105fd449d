-- Texts by which processes are asked for.
use Rattle.std.proofs.Common.{◌≡◌, ℕ, Bool, true, false, ◌||◌, cond, nat_eq, List, [], ◌∷◌, ◌++◌, length, take, drop, take-append-drop, refl, sym, ap, ◌∙◌, append_assoc, arith}
use Rattle.std.proofs.lemmas.Bool.{eq-eqb}
use Rattle.std.proofs.lemmas.Bool.Decides.{same_from_decides, Decides-eqb}
use Rattle.std.proofs.lemmas.List.{take_at}
use Rattle.std.proofs.lemmas.Slice.Eq.{bytes_eq-Decides, slice_eq-Decides}
use Rattle.std.proofs.Math.Seq.{drop-append_seam}
use Rattle.std.specs.Cmp.Lexicographic.{pointwise}
use Rattle.std.specs.Str.{bytes_eq}
use Rattle.trace_text.specs.Choosing.{before_last, has_byte, inside, names_by, names_of}
use Rattle.trace_text.proofs.PartLemmas.{false_if}

-- ---- the last such byte

or_false : (b : Bool) → (b || false) ≡ b
or_false true = refl
or_false false = refl

or_true : (b : Bool) → (b || true) ≡ true
or_true true = refl
or_true false = refl

or_step : (a b c d : Bool) → b ≡ (c || d) → (a || b) ≡ ((a || c) || d)
or_step true b c d e = refl
or_step false b c d e = e

has_behind : (byte last : ℕ) (xs : List ℕ) → has_byte byte (xs ++ last ∷ []) ≡ (has_byte byte xs || nat_eq last byte)
has_behind byte last [] = or_false (nat_eq last byte)
has_behind byte last (x ∷ xs) = or_step (nat_eq x byte) (has_byte byte (xs ++ last ∷ [])) (has_byte byte xs) (nat_eq last byte) (has_behind byte last xs)

-- another byte is passed over
pub passed_last : (byte last : ℕ) (xs : List ℕ) → nat_eq last byte ≡ false → before_last byte (xs ++ last ∷ []) ≡ before_last byte xs
passed_last byte last [] e = refl
passed_last byte last (x ∷ xs) e =
    ap (λ (b : Bool). cond b (x ∷ before_last byte (xs ++ last ∷ [])) []) (has_behind byte last xs ∙ ap (λ (b : Bool). has_byte byte xs || b) e ∙ or_false (has_byte byte xs))
    ∙ ap (λ (l : List ℕ). cond (has_byte byte xs) (x ∷ l) []) (passed_last byte last xs e)

-- such a byte is found
pub found_last : (byte last : ℕ) (xs : List ℕ) → nat_eq last byte ≡ true → before_last byte (xs ++ last ∷ []) ≡ xs
found_last byte last [] e = refl
found_last byte last (x ∷ xs) e =
    ap (λ (b : Bool). cond b (x ∷ before_last byte (xs ++ last ∷ [])) []) (has_behind byte last xs ∙ ap (λ (b : Bool). has_byte byte xs || b) e ∙ or_true (has_byte byte xs)) ∙ ap (λ (l : List ℕ). x ∷ l) (found_last byte last xs e)

-- what is left of a text after other bytes
pub goes_on : (byte last : ℕ) (text front before : List ℕ) → before_last byte front ≡ before_last byte text → front ≡ before ++ last ∷ [] → nat_eq last byte ≡ false → before_last byte before ≡ before_last byte text
goes_on byte last text front before so_far is other = sym (passed_last byte last before other) ∙ sym (ap (before_last byte) is) ∙ so_far

pub stops : (byte last : ℕ) (text front before : List ℕ) → before_last byte front ≡ before_last byte text → front ≡ before ++ last ∷ [] → nat_eq last byte ≡ true → before ≡ before_last byte text
stops byte last text front before so_far is same = sym (found_last byte last before same) ∙ sym (ap (before_last byte) is) ∙ so_far

none_left : (front : List ℕ) → length front ≡ 0 → front ≡ []
none_left [] e = refl
none_left (x ∷ xs) e = absurd (omega (arith, e))

pub runs_out : (byte : ℕ) (text front : List ℕ) → before_last byte front ≡ before_last byte text → length front ≡ 0 → front ≡ before_last byte text
runs_out byte text front so_far empty = let e = none_left front empty in e ∙ sym (ap (before_last byte) e) ∙ so_far

-- ---- by its parts

there : (byte : ℕ) (xs ys : List ℕ) → has_byte byte (xs ++ byte ∷ ys) ≡ true
there byte [] ys = ap (λ (b : Bool). b || has_byte byte ys) (eq-eqb byte byte refl)
there byte (x ∷ xs) ys = ap (λ (b : Bool). nat_eq x byte || b) (there byte xs ys) ∙ or_true (nat_eq x byte)

up_to : (byte : ℕ) (xs ys : List ℕ) → has_byte byte ys ≡ false → before_last byte (xs ++ byte ∷ ys) ≡ xs
up_to byte [] ys none = ap (λ (b : Bool). cond b (byte ∷ before_last byte ys) []) none
up_to byte (x ∷ xs) ys none = ap (λ (b : Bool). cond b (x ∷ before_last byte (xs ++ byte ∷ ys)) []) (there byte xs ys) ∙ ap (λ (l : List ℕ). x ∷ l) (up_to byte xs ys none)

pub process_names : (node id serial creation : List ℕ) → has_byte 46 id ≡ false → has_byte 46 serial ≡ false → has_byte 46 creation ≡ false
    → names_of (inside 60 62 (60 ∷ (((node ++ 46 ∷ (id ++ 46 ∷ serial)) ++ 46 ∷ creation) ++ 62 ∷ [])))
    ≡ (node ++ 46 ∷ (id ++ 46 ∷ serial)) ∷ (inside 39 39 node ++ 46 ∷ ((id ++ 46 ∷ serial) ++ 46 ∷ creation)) ∷ (inside 39 39 node ++ 46 ∷ (id ++ 46 ∷ serial)) ∷ (48 ∷ (46 ∷ (id ++ 46 ∷ serial))) ∷ []
process_names node id serial creation i s c =
    let numbers = 46 ∷ (id ++ 46 ∷ serial) in
    let short = node ++ numbers in
    let whole = short ++ 46 ∷ creation in
    let bare = inside 39 39 node in
    let first : before_last 46 short ≡ node ++ 46 ∷ id = ap (before_last 46) (sym (append_assoc node (46 ∷ id) (46 ∷ serial))) ∙ up_to 46 (node ++ 46 ∷ id) serial s in
    ap names_of (up_to 62 whole [] refl) ∙ ap (λ (l : List ℕ). names_by (before_last 46 (before_last 46 l)) whole l) (up_to 46 short creation c) ∙ ap (λ (l : List ℕ). names_by (before_last 46 l) whole short) first
    ∙ ap (λ (l : List ℕ). names_by l whole short) (up_to 46 node id i)
    ∙ ap (λ (l : List ℕ). short ∷ (bare ++ l) ∷ (bare ++ drop (length node) short) ∷ (48 ∷ drop (length node) short) ∷ []) (ap (drop (length node)) (append_assoc node numbers (46 ∷ creation)) ∙ drop-append_seam node (numbers ++ 46 ∷ creation))
    ∙ ap (λ (l : List ℕ). short ∷ (bare ++ (numbers ++ 46 ∷ creation)) ∷ (bare ++ l) ∷ (48 ∷ l) ∷ []) (drop-append_seam node numbers)

-- ---- two texts in a row

module _ (text first second : List ℕ) where
  begun : pointwise nat_eq (take (length first) text) first ≡ true → take (length first) text ≡ first
  begun same = (slice_eq-Decides Decides-eqb (take (length first) text) first (pointwise nat_eq (take (length first) text) first) refl).0 same

  pub joined_behind : (b : Bool) (rest : List ℕ) → b ≡ bytes_eq rest second → pointwise nat_eq (take (length first) text) first ≡ true → rest ≡ drop (length first) text → b ≡ bytes_eq text (first ++ second)
  joined_behind b rest is same from =
      let parts : text ≡ first ++ rest = sym (take-append-drop (length first) text) ∙ ap (λ (l : List ℕ). l ++ drop (length first) text) (begun same) ∙ ap (λ (l : List ℕ). first ++ l) (sym from) in
      let d = bytes_eq-Decides rest second in
      is ∙ same_from_decides {P = rest ≡ second} (bytes_eq rest second) (bytes_eq text (first ++ second)) d
      (λ e. sym (drop-append_seam first rest) ∙ ap (drop (length first)) (sym parts ∙ (bytes_eq-Decides text (first ++ second)).0 e) ∙ drop-append_seam first second, λ p. (bytes_eq-Decides text (first ++ second)).1 (parts ∙ ap (λ (l : List ℕ). first ++ l) p))

  pub never_joined : pointwise nat_eq (take (length first) text) first ≡ false → false ≡ bytes_eq text (first ++ second)
  never_joined other = sym (false_if (bytes_eq text (first ++ second)) (λ e.
      let is : text ≡ first ++ second = (bytes_eq-Decides text (first ++ second)).0 e in
      let front : take (length first) text ≡ first = ap (take (length first)) is ∙ take_at first second (length first) refl in
      let same : pointwise nat_eq (take (length first) text) first ≡ true = (slice_eq-Decides Decides-eqb (take (length first) text) first (pointwise nat_eq (take (length first) text) first) refl).1 front in
      let never : true ≡ false = sym same ∙ other in absurd cc))
