-- Chosen lines, and those of the whole listing.
use Rattle.std.specs.Prelude.{flat_map, not}
use Rattle.std.proofs.Common.{◌≡◌, ℕ, ◌+◌, ◌<◌, Bool, true, false, ◌&&◌, ◌||◌, cond, Option, Some, None, List, [], ◌∷◌, ◌++◌, length, codes, refl, sym, ap, ◌∙◌, subst, arith, append_assoc}
use Rattle.std.proofs.lemmas.Bool.{leb-true, lt-leb}
use Rattle.std.proofs.lemmas.List.{append-nil}
use Rattle.std.specs.Fmt.{decimal}
use Rattle.std.specs.List.{AllByRecursion}
use Rattle.entry_codec.specs.Entries.{Entry, Message, Drop}
use Rattle.trace_text.specs.declared.style.Notation.{Notation}
use Rattle.trace_text.specs.declared.style.Notation.TheVariants.{Text, Json}
use Rattle.trace_text.specs.declared.style.Style.{Style}
use Rattle.trace_text.specs.declared.style.Wording.{Wording}
use Rattle.trace_text.specs.Choosing.{Asks, chooses, ends, is_at_end, is_from, is_to, suits_if, term_in}
use Rattle.trace_text.specs.Objects.{Member, IsObject, object_line}
use Rattle.trace_text.specs.Lines.{IsTold, IsRow, IsShown, asked_for, passed_over, IsListedLine, IsLine, line_text, end_mark, asks_in, AreLines, none, line, EachLine, no_lines, one_line, kept, ends_in, HasRow}
use Rattle.trace_text.proofs.Lined.{FirstLine, lined}

abbrev flat : List (List ℕ) → List ℕ
flat lines = flat_map (λ l. l) lines

-- ---- a whole listing

pub each_line : (style : Style) (n : ℕ) (es : List Entry) (text : List ℕ) → asks_in style ≡ None → AreLines style n es text → (lines : List (List ℕ)) × EachLine style.notation style.wording n es lines × (text ≡ flat_map (λ l. l) lines)
each_line style _ _ _ every (none n) = ([], no_lines n, refl)
each_line style _ _ _ every (line n e es first text is are) =
    let more = each_line style (n + 1) es text every are in
    let one = subst (λ (asks : Option Asks). IsListedLine style.notation style.wording asks n e first) every is in
    (first ∷ more.0, one_line n e es first more.0 one more.1, ap (λ (l : List ℕ). first ++ l) more.2)

-- ---- one by a choice

-- the text where it is so, and else nothing
abbrev text_if : Bool → List ℕ → List ℕ
text_if is text = cond is text []

-- what stands for an entry, and what is listed of it
record One (style : Style) (asks : Asks) (n : ℕ) (e : Entry) (first : List ℕ) : Type 0 where
  row : List ℕ
  is_row : IsRow style.notation style.wording n e row
  is : first ≡ text_if (chooses asks n e) row ++ end_mark asks n

one_shown : (style : Style) (asks : Asks) (n : ℕ) (e : Entry) (first shown : List ℕ) → HasRow style.notation style.wording e → IsShown style.notation style.wording asks n e shown → first ≡ shown ++ end_mark asks n → One style asks n e first
one_shown style asks n e first _ some (asked_for row chosen is) so =
    record { row = row; is_row = is; is = so ∙ ap (λ (b : Bool). text_if b row ++ end_mark asks n) (sym chosen) }
one_shown style asks n e first _ some (passed_over other) so =
    record { row = (some n).0; is_row = (some n).1; is = so ∙ ap (λ (b : Bool). text_if b (some n).0 ++ end_mark asks n) (sym other) }

one_of : (style : Style) (asks : Asks) (n : ℕ) (e : Entry) (first : List ℕ) → asks_in style ≡ Some asks → HasRow style.notation style.wording e → IsLine style n e first → One style asks n e first
one_of style asks n e first by some is =
    let one = subst (λ (o : Option Asks). IsListedLine style.notation style.wording o n e first) by is in
    one_shown style asks n e first one.0 some one.1 one.2

flat_if : (b : Bool) (l : List ℕ) (ls : List (List ℕ)) → flat (cond b (l ∷ ls) ls) ≡ text_if b l ++ flat ls
flat_if true l ls = refl
flat_if false l ls = refl

not_left : (a b : Bool) → a || b ≡ false → a ≡ false
not_left false b e = refl
not_left true b e = absurd cc

not_right : (a b : Bool) → a || b ≡ false → b ≡ false
not_right false b e = e
not_right true b e = absurd cc

-- nothing stands behind an entry at which no listing ends
no_mark : (asks : Asks) (n : ℕ) → ends asks n ≡ false → end_mark asks n ≡ []
no_mark asks n e = ap (λ (b : Bool). text_if b (10 ∷ [])) e

a_mark : (asks : Asks) (n : ℕ) → ends asks n ≡ true → end_mark asks n ≡ 10 ∷ []
a_mark asks n e = ap (λ (b : Bool). text_if b (10 ∷ [])) e

-- the first line goes before the others
joined : (asks : Asks) (n : ℕ) (e : Entry) (l first text rest : List ℕ) (ls : List (List ℕ)) → ends asks n ≡ false → first ≡ text_if (chooses asks n e) l ++ end_mark asks n → text ≡ flat ls ++ rest
    → first ++ text ≡ flat (cond (chooses asks n e) (l ∷ ls) ls) ++ rest
joined asks n e l first text rest ls go one more =
    let b = chooses asks n e in
    let begins : first ≡ text_if b l = one ∙ ap (λ (m : List ℕ). text_if b l ++ m) (no_mark asks n go) ∙ append-nil (text_if b l) in
    ap (λ (m : List ℕ). m ++ text) begins ∙ ap (λ (m : List ℕ). text_if b l ++ m) more ∙ sym (append_assoc (text_if b l) (flat ls) rest) ∙ ap (λ (m : List ℕ). m ++ rest) (sym (flat_if b l ls))

-- the lines of entries, of which those that are asked for are listed, and then this
abbrev Kept : Style → Asks → ℕ → List Entry → List ℕ → List ℕ → Type 0
Kept style asks n es text rest = (lines : List (List ℕ)) × EachLine style.notation style.wording n es lines × (text ≡ flat (kept asks n es lines) ++ rest)

kept_before : (style : Style) (asks : Asks) (n : ℕ) (e : Entry) (es : List Entry) (first text rest : List ℕ) → ends asks n ≡ false → One style asks n e first → Kept style asks (n + 1) es text rest → Kept style asks n (e ∷ es) (first ++ text) rest
kept_before style asks n e es first text rest go one more = (
  one.row ∷ more.0,
  one_line n e es one.row more.0 one.is_row more.1,
  joined asks n e one.row first text rest (kept asks (n + 1) es more.0) go one.is more.2,
)

kept_to : (style : Style) (asks : Asks) (n : ℕ) (es : List Entry) (text : List ℕ) → asks_in style ≡ Some asks → AllByRecursion (HasRow style.notation style.wording) es → ends_in asks n es ≡ false → AreLines style n es text → Kept style asks n es text []
kept_to style asks _ _ _ by all go (none n) = ([], no_lines n, refl)
kept_to style asks _ _ _ by all go (line n e es first text is are) =
    kept_before style asks n e es first text [] (not_left (ends asks n) (ends_in asks (n + 1) es) go) (one_of style asks n e first by all.0 is) (kept_to style asks (n + 1) es text by all.1 (not_right (ends asks n) (ends_in asks (n + 1) es) go) are)

pub are_kept : (style : Style) (asks : Asks) (n : ℕ) (es : List Entry) (text : List ℕ) → asks_in style ≡ Some asks → AllByRecursion (HasRow style.notation style.wording) es → ends_in asks n es ≡ false → AreLines style n es text
    → (lines : List (List ℕ)) × EachLine style.notation style.wording n es lines × (text ≡ flat_map (λ l. l) (kept asks n es lines))
are_kept style asks n es text by all go are =
    let k = kept_to style asks n es text by all go are in
    (k.0, k.1, k.2 ∙ append-nil (flat (kept asks n es k.0)))

-- the entry at which it ends
at_end : (style : Style) (asks : Asks) (n : ℕ) (e : Entry) (text : List ℕ) → One style asks n e text → ends asks n ≡ true → Kept style asks n (e ∷ []) text (10 ∷ [])
at_end style asks n e text one at =
    let b = chooses asks n e in
    let l = one.row in
    let flatly : flat (cond b (l ∷ []) []) ≡ text_if b l = flat_if b l [] ∙ append-nil (text_if b l) in (
      l ∷ [],
      one_line n e [] one.row [] one.is_row (no_lines (n + 1)),
      one.is ∙ ap (λ (m : List ℕ). text_if b l ++ m) (a_mark asks n at) ∙ ap (λ (m : List ℕ). m ++ 10 ∷ []) (sym flatly),
    )

alone : (style : Style) (asks : Asks) (n : ℕ) (e : Entry) (text : List ℕ) → asks_in style ≡ Some asks → HasRow style.notation style.wording e → FirstLine style n e [] text → One style asks n e text
alone style asks n e text by some f =
    let nothing : f.others ≡ [] = lined style (n + 1) [] f.others f.are in
    let same : text ≡ f.first = f.is ∙ ap (λ (l : List ℕ). f.first ++ l) nothing ∙ append-nil f.first in
    one_of style asks n e text by some (subst (λ (l : List ℕ). IsLine style n e l) (sym same) f.one)

pub kept_last : (style : Style) (asks : Asks) (n : ℕ) (es : List Entry) (e : Entry) (text : List ℕ) → asks_in style ≡ Some asks → AllByRecursion (HasRow style.notation style.wording) (es ++ e ∷ []) → ends_in asks n es ≡ false → ends asks (n + length es) ≡ true
    → AreLines style n (es ++ e ∷ []) text → (lines : List (List ℕ)) × EachLine style.notation style.wording n (es ++ e ∷ []) lines × (text ≡ flat_map (λ l. l) (kept asks n (es ++ e ∷ []) lines) ++ 10 ∷ [])
kept_last style asks n [] e text by all go at are =
    let here : n + 0 ≡ n = omega arith in
    at_end style asks n e text (alone style asks n e text by all.0 (lined style n (e ∷ []) text are)) (subst (λ (m : ℕ). ends asks m ≡ true) here at)
kept_last style asks n (x ∷ es) e text by all go at are =
    let f : FirstLine style n x (es ++ e ∷ []) text = lined style n (x ∷ (es ++ e ∷ [])) text are in
    let there : n + length (x ∷ es) ≡ (n + 1) + length es = omega arith in
    let more = kept_last style asks (n + 1) es e f.others by all.1 (not_right (ends asks n) (ends_in asks (n + 1) es) go) (subst (λ (m : ℕ). ends asks m ≡ true) there at) f.are in
    let k = kept_before style asks n x (es ++ e ∷ []) f.first f.others (10 ∷ []) (not_left (ends asks n) (ends_in asks (n + 1) es) go) (one_of style asks n x f.first by all.0 f.one) more in
    (k.0, k.1, f.is ∙ k.2)

shown_if : (style : Style) (asks : Asks) (n : ℕ) (e : Entry) (row : List ℕ) (b : Bool) → chooses asks n e ≡ b → IsRow style.notation style.wording n e row → IsShown style.notation style.wording asks n e (text_if b row)
shown_if style asks n e row true chosen is = asked_for row chosen is
shown_if style asks n e row false other is = passed_over other

pub some_kept : (style : Style) (asks : Asks) (n : ℕ) (es : List Entry) (lines : List (List ℕ)) → asks_in style ≡ Some asks → ends_in asks n es ≡ false → EachLine style.notation style.wording n es lines → AreLines style n es (flat_map (λ l. l) (kept asks n es lines))
some_kept style asks _ _ _ by go (no_lines n) = none n
some_kept style asks _ _ _ by go (one_line n e es l lines is are) =
    let b = chooses asks n e in
    let others = kept asks (n + 1) es lines in
    let first = text_if b l ++ end_mark asks n in
    let one : IsListedLine style.notation style.wording (Some asks) n e first = (text_if b l, shown_if style asks n e l b refl is, refl) in
    let more = some_kept style asks (n + 1) es lines by (not_right (ends asks n) (ends_in asks (n + 1) es) go) are in
    let whole : first ++ flat others ≡ flat (cond b (l ∷ others) others) =
    joined asks n e l first (flat others) [] others (not_left (ends asks n) (ends_in asks (n + 1) es) go) refl (sym (append-nil (flat others))) ∙ append-nil (flat (cond b (l ∷ others) others)) in
    subst (AreLines style n (e ∷ es)) whole (line n e es first (flat others) (subst (λ (o : Option Asks). IsListedLine style.notation style.wording o n e first) (sym by) one) more)

-- ---- a line that is put

grouped : (old told : List ℕ) (n : ℕ) → old ++ decimal n ++ codes " " ++ told ++ 10 ∷ [] ≡ old ++ (decimal n ++ codes " " ++ told ++ 10 ∷ [])
grouped old told n = simp append_assoc

pub put_behind : (old new told : List ℕ) (n : ℕ) → new ≡ old ++ decimal n ++ codes " " ++ told ++ 10 ∷ [] → new ≡ old ++ (decimal n ++ codes " " ++ told ++ 10 ∷ [])
put_behind old new told n e = e ∙ grouped old told n

unsuited : (a b c : Bool) → c ≡ false → a && (b && c) ≡ false
unsuited false b c e = refl
unsuited true false c e = refl
unsuited true true c e = e

all_three : (a b c : Bool) → a ≡ true → b ≡ true → c ≡ true → a && (b && c) ≡ true
all_three true true true d e f = refl
all_three true true false d e f = absurd cc
all_three true false c d e f = absurd cc
all_three false b c d e f = absurd cc

unsuited_number : (a b c : Bool) → b ≡ false → a && (b && c) ≡ false
unsuited_number true true c e = absurd cc
unsuited_number true false c e = refl
unsuited_number false b c e = refl

-- what stands for a message, and nothing where it isn't asked for
pub shown_of : (notation : Notation) (wording : Wording) (asks : Asks) (n : ℕ) (bytes old new : List ℕ) (is : Bool) → is_to asks.to n ≡ true → is_from asks.from n ≡ true → is ≡ suits_if asks (term_in bytes)
    → (is ≡ true → (row : List ℕ) × IsRow notation wording n (Message bytes) row × (new ≡ old ++ row)) → (is ≡ false → new ≡ old) → (shown : List ℕ) × IsShown notation wording asks n (Message bytes) shown × (new ≡ old ++ shown)
shown_of notation wording asks n bytes old new true at from asked told other =
    let r = told refl in (r.0, asked_for r.0 (all_three (is_to asks.to n) (is_from asks.from n) (suits_if asks (term_in bytes)) at from (sym asked)) r.1, r.2)
shown_of notation wording asks n bytes old new false at from asked told other = ([], passed_over (unsuited (is_to asks.to n) (is_from asks.from n) (suits_if asks (term_in bytes)) (sym asked)), other refl ∙ sym (append-nil old))

pub too_early : (asks : Asks) (n : ℕ) (bytes : List ℕ) → is_from asks.from n ≡ false → chooses asks n (Message bytes) ≡ false
too_early asks n bytes e = unsuited_number (is_to asks.to n) (is_from asks.from n) (suits_if asks (term_in bytes)) e

-- a line, and an object, is what stands for an entry
pub row_of_line : (notation : Notation) (wording : Wording) (n : ℕ) (entry : Entry) (old new told : List ℕ) → notation ≡ Text → IsTold wording entry told → new ≡ old ++ line_text n told
    → (row : List ℕ) × IsRow notation wording n entry row × (new ≡ old ++ row)
row_of_line Text wording n entry old new told is t e = (line_text n told, (told, t, refl), e)
row_of_line Json wording n entry old new told is t e = absurd cc

pub row_of_object : (notation : Notation) (wording : Wording) (n : ℕ) (entry : Entry) (old new : List ℕ) (members : List Member) → notation ≡ Json → IsObject n entry members → new ≡ old ++ object_line members
    → (row : List ℕ) × IsRow notation wording n entry row × (new ≡ old ++ row)
row_of_object Text wording n entry old new members is o e = absurd cc
row_of_object Json wording n entry old new members is o e = (object_line members, (members, o, refl), e)

-- a number, and what stands after it
pub numbered : (old a b c told : List ℕ) (n : ℕ) → a ≡ old ++ decimal n → b ≡ a ++ 32 ∷ [] → c ≡ b ++ told → c ≡ old ++ (decimal n ++ codes " " ++ told)
numbered old a b c told n x y z = z ∙ ap (λ (l : List ℕ). l ++ told) (y ∙ ap (λ (l : List ℕ). l ++ 32 ∷ []) x) ∙ spaced old told n
  where
    spaced : (old told : List ℕ) (n : ℕ) → old ++ decimal n ++ codes " " ++ told ≡ old ++ (decimal n ++ codes " " ++ told)
    spaced old told n = simp append_assoc

-- ---- behind the end

later : (to : Option ℕ) (n m : ℕ) → is_at_end to n ≡ true → n < m → is_to to m ≡ false
later None n m at more = absurd cc
later (Some last) n m at more = lt-leb m last (let h = leb-true last n at in omega (arith, h))

pub unchosen : (asks : Asks) (m : ℕ) (e : Entry) → is_to asks.to m ≡ false → chooses asks m e ≡ false
unchosen asks m (Message bytes) over = ap (λ (b : Bool). b && (is_from asks.from m && suits_if asks (term_in bytes))) over
unchosen asks m (Drop count) over = over

right_true : (a b : Bool) → a && b ≡ true → b ≡ true
right_true true b e = e
right_true false b e = absurd cc

pub none_behind : (asks : Asks) (n m : ℕ) (e : Entry) → ends asks n ≡ true → n < m → chooses asks m e ≡ false
none_behind asks n m e at more = unchosen asks m e (later asks.to n m (right_true (not asks.is_whole) (is_at_end asks.to n) at) more)
