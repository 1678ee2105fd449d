-- Bytes beyond ASCII, and control characters.
use Rattle.std.proofs.Common.{◌≡◌, ℕ, zero, suc, ◌<◌, ◌≤◌, Bool, true, false, true≢false, ◌&&◌, not, nat_eq, if◌then◌else◌, List, [], ◌∷◌, ◌++◌, length, take, drop, refl, sym, ap, ◌∙◌, arith}
use Rattle.std.specs.Prelude.{slice_index}
use Rattle.std.specs.Char.{is_ascii}
use Rattle.std.specs.List.{list_all}
use Rattle.std.specs.Str.{IsAscii, IsNotAscii, IsUtf8, is_utf8}
use Rattle.std.proofs.lemmas.Bool.{lt-ltb, le-ltb, ne_eqb}
use Rattle.std.proofs.lemmas.Str.{IsUtf8-from_is_utf8, is_utf8-from_IsUtf8}
use Rattle.trace_text.specs.AtomText.{is_plain, is_plain_byte, begins_lower, is_reserved, quoted}
use Rattle.trace_text.specs.Pretty.{is_wide}
use Rattle.trace_text.specs.Controls.{without_controls, name_text}

pub all_ascii : (bs : List ℕ) → IsAscii bs → list_all is_ascii bs ≡ true
all_ascii [] h = refl
all_ascii (b ∷ bs) h = rw (lt-ltb b 128 (h 0)) (all_ascii bs (λ i. h (suc i)))

pub not_ascii : (bs : List ℕ) (i : ℕ) → 128 ≤ slice_index bs i → list_all is_ascii bs ≡ false
not_ascii [] i h = absurd (omega (arith, h))
not_ascii (b ∷ bs) zero h = rw (le-ltb b 128 h) refl
not_ascii (b ∷ bs) (suc i) h = elim (is_ascii b) as (λ x. x && list_all is_ascii bs ≡ false) [ true ↦ not_ascii bs i h | false ↦ refl ]

pub no_wide : (bs : List ℕ) → IsAscii bs → is_wide bs ≡ false
no_wide bs h = ap (λ x. not x && is_utf8 bs) (all_ascii bs h)

pub wide : (bs : List ℕ) → IsNotAscii bs → IsUtf8 bs → is_wide bs ≡ true
wide bs h utf8 = ap (λ x. not x && is_utf8 bs) (not_ascii bs h.0 h.1) ∙ is_utf8-from_IsUtf8 bs utf8

pub none_wide : (bs : List ℕ) → (IsUtf8 bs → ⊥) → is_wide bs ≡ false
none_wide bs broken = unless (is_utf8 bs) refl
  where
    unless : (b : Bool) → is_utf8 bs ≡ b → (not (list_all is_ascii bs) && b) ≡ false
    unless true e = absurd (broken (IsUtf8-from_is_utf8 bs e))
    unless false e = elim (list_all is_ascii bs) as (λ x. (not x && false) ≡ false) [ true ↦ refl | false ↦ refl ]

-- ASCII has no control character beyond it
pub no_controls : (bs : List ℕ) → IsAscii bs → without_controls bs ≡ bs
no_controls [] h = refl
no_controls (a ∷ []) h = refl
no_controls (a ∷ b ∷ bs) h =
    let low : a < 128 = h 0 in
    rw (ne_eqb a 194 (λ e. omega (arith, e, low))) (ap (λ (l : List ℕ). a ∷ l) (no_controls (b ∷ bs) (λ i. h (suc i))))

parted : (xs ys : List ℕ) → (take (length xs) (xs ++ ys) ≡ xs) × (drop (length xs) (xs ++ ys) ≡ ys)
parted [] ys = (refl, refl)
parted (x ∷ xs) ys = let h = parted xs ys in (ap (λ (l : List ℕ). x ∷ l) h.0, h.1)

-- what is hidden of a text that was put at the end of a line
pub hidden : (line text mid now : List ℕ) (start : ℕ) → start ≡ length line → mid ≡ line ++ text → now ≡ take start mid ++ without_controls (drop start mid) → now ≡ line ++ without_controls text
hidden line text mid now start at put is =
    let h = parted line text in
    is ∙ ap (λ (n : ℕ). take n mid ++ without_controls (drop n mid)) at ∙ ap (λ (l : List ℕ). take (length line) l ++ without_controls (drop (length line) l)) put
    ∙ ap (λ (l : List ℕ). l ++ without_controls (drop (length line) (line ++ text))) h.0 ∙ ap (λ (l : List ℕ). line ++ without_controls l) h.1

both : (x y : Bool) → (x && y) ≡ true → (x ≡ true) × (y ≡ true)
both true y e = (refl, e)
both false y e = absurd (true≢false (sym e))

no_lead : (a : ℕ) → is_plain_byte a ≡ true → nat_eq a 194 ≡ false
no_lead a plain = ne_eqb a 194 (λ e. true≢false (sym plain ∙ ap is_plain_byte e))

-- an atom that needs no quotes has no control character
no_plain_controls : (bs : List ℕ) → list_all is_plain_byte bs ≡ true → without_controls bs ≡ bs
no_plain_controls [] h = refl
no_plain_controls (a ∷ []) h = refl
no_plain_controls (a ∷ b ∷ bs) h =
    let k = both (is_plain_byte a) (list_all is_plain_byte (b ∷ bs)) h in
    rw (no_lead a k.0) (ap (λ (l : List ℕ). a ∷ l) (no_plain_controls (b ∷ bs) k.1))

pub plain_name : (text : List ℕ) → is_plain text ≡ true → name_text text ≡ text
plain_name text plain =
    let k = both (begins_lower text && list_all is_plain_byte text) (not (is_reserved text)) plain in
    ap (λ x. without_controls (if x then text else quoted text)) plain ∙ no_plain_controls text (both (begins_lower text) (list_all is_plain_byte text) k.0).1

-- what was put at the end of a line
pub put_alone : (line a b now : List ℕ) → now ≡ line ++ a → now ≡ line ++ b → a ≡ b
put_alone line a b now e f = sym (parted line a).1 ∙ ap (drop (length line)) (sym e ∙ f) ∙ (parted line b).1
