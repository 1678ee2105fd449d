-- Rows of which the last are held back.
use Rattle.std.proofs.Common.{◌≡◌, ℕ, ◌+◌, ◌-◌, ◌≤◌, Bool, true, false, List, [], ◌∷◌, ◌++◌, length, drop, refl, sym, ◌∙◌, ap, subst, append_assoc, append-nil, length-append, length-drop, arith}
use Rattle.std.specs.Prelude.{Option, Some, None, is_some, ◌&&◌, IfSome, OnSome, MatchOption, option_to_list, if◌then◌else◌}
use Rattle.std.specs.Coded.{Unit-prop}
use Rattle.std.specs.declared.vec.Vec.{Vec}
use Rattle.std.specs.declared.alloc.Global.{Global}
use Rattle.std.proofs.lemmas.List.{drop-drop, drop-append-le, drop_all}
use Rattle.std.proofs.lemmas.List.Elements.{All-push, All-nil}
use Rattle.std.proofs.Math.Bridge.{le_prop}
use Rattle.std.proofs.Math.Logic.{∥∥₁_elim}
use Rattle.shown_listings.specs.declared.look.Rule.{Rule}
use Rattle.shown_listings.specs.Since.{CountsOn, IsEnough}
use Rattle.shown_listings.specs.Rows.{IsRow, MayLack, none, is_end, last_rows, HaveLast, HaveEnough, ComesBehind, added, ended, HavePassed, AreLaid, HaveCome, AreHeld, bit, held_behind, rows_in, kept_rows, SendsNone, text_of_rows}
use Rattle.shown_listings.proofs.RowLemmas.{line-laid}

-- Of the last rows, with more behind them, the last are those of all.
last-of-last : (n : ℕ) (all more : List (List ℕ)) → last_rows n (last_rows n all ++ more) ≡ last_rows n (all ++ more)
last-of-last n all more =
    let past = length all - n in
    let rows = all ++ more in
    let behind : drop past rows ≡ drop past all ++ more = drop-append-le past all more (omega arith) in
    let count : past + (length (drop past rows) - n) ≡ length rows - n = omega (arith, length-drop past rows, length-append all more) in
    ap (λ rs. last_rows n rs) (sym behind) ∙ drop-drop (length (drop past rows) - n) past rows ∙ ap (λ k. drop k rows) count

-- They are no more than so many.
few-last : (n : ℕ) (all : List (List ℕ)) → length (last_rows n all) ≤ n
few-last n all = omega (arith, length-drop (length all - n) all)

abbrev HasRow : Rule → List ℕ → Option (Vec ℕ Global) → Type 0
HasRow rule line row = MatchOption row (MayLack rule.shows_each line) (λ r. IsRow rule.may_cut line r.items)

abbrev Last : ℕ → Rule → List (List ℕ) → List (List ℕ) → Type 0
Last n rule lines rows = HaveLast n rule.shows_each rule.may_cut lines rows

-- A line more comes to those of which the last rows are held back.
last-on : (n : ℕ) (rule : Rule) (lines rows : List (List ℕ)) (line : List ℕ) (row : Option (Vec ℕ Global)) → is_end line ≡ false → HasRow rule line row → Last n rule lines rows
    → Last n rule (lines ++ line ∷ []) (last_rows n (rows ++ rows_in (option_to_list row)))
last-on n rule lines rows line row other is was = record {
  unended = All-push (λ l. is_end l ≡ false) lines line was.unended other;
  all = was.all ++ rows_in (option_to_list row);
  have = line-laid rule.shows_each rule.may_cut lines was.all line row is was.have;
  are = ap (λ rs. last_rows n (rs ++ rows_in (option_to_list row))) was.are ∙ last-of-last n was.all (rows_in (option_to_list row));
}

-- A line has a row, or none.
count-of : (row : Option (Vec ℕ Global)) → length (rows_in (option_to_list row)) ≡ bit (is_some row)
count-of None = refl
count-of (Some row) = refl

-- What was counted is behind the first line that was.
come-by : (first since now : Option ℕ) (each cut : Bool) (lines rows : List (List ℕ)) (line : List ℕ) (row : Option (Vec ℕ Global)) → MatchOption row (MayLack each line) (λ r. IsRow cut line r.items)
    → CountsOn first since line (bit (is_some row)) now → IfSome since (λ n. IfSome first (λ entry. HaveEnough entry n each cut lines rows))
    → IfSome now (λ n. IfSome first (λ entry. HaveEnough entry n each cut (lines ++ line ∷ []) (rows ++ rows_in (option_to_list row))))
come-by first since None each cut lines rows line row is counts was = tt
come-by None since (Some n) each cut lines rows line row is counts was = tt
come-by (Some entry) (Some before) (Some n) each cut lines rows line row is counts was = record {
  before = was.before;
  line = was.line;
  behind = was.behind ++ line ∷ [];
  earlier = was.earlier;
  later = was.later ++ rows_in (option_to_list row);
  lines_are = ap (λ ls. ls ++ line ∷ []) was.lines_are ∙ append_assoc was.before (was.line ∷ was.behind) (line ∷ []);
  rows_are = ap (λ rs. rs ++ rows_in (option_to_list row)) was.rows_are ∙ append_assoc was.earlier was.later (rows_in (option_to_list row));
  from = was.from;
  have = line-laid each cut (was.line ∷ was.behind) was.later line row is was.have;
  enough = omega (arith, counts, was.enough, count-of row, length-append was.later (rows_in (option_to_list row)));
}
come-by (Some entry) None (Some n) each cut lines rows line row is counts was = record {
  before = lines;
  line = line;
  behind = [];
  earlier = rows;
  later = rows_in (option_to_list row);
  lines_are = refl;
  rows_are = refl;
  from = counts.0;
  have = line-laid each cut [] [] line row is none;
  enough = omega (arith, counts.1, count-of row);
}

-- Where enough were counted, enough came.
enough-by : (first since : Option ℕ) (n : ℕ) (each cut : Bool) (lines rows : List (List ℕ)) → IsEnough first since n → IfSome since (λ k. IfSome first (λ entry. HaveEnough entry k each cut lines rows))
    → IfSome first (λ entry. HaveEnough entry n each cut lines rows)
enough-by None since n each cut lines rows is was = tt
enough-by (Some entry) None n each cut lines rows is was = absurd is
enough-by (Some entry) (Some k) n each cut lines rows is was = record {
  before = was.before;
  line = was.line;
  behind = was.behind;
  earlier = was.earlier;
  later = was.later;
  lines_are = was.lines_are;
  rows_are = was.rows_are;
  from = was.from;
  have = was.have;
  enough = omega (arith, is, was.enough);
}

behind-on : (follows : Bool) (lines : List (List ℕ)) (line : List ℕ) → ComesBehind follows lines → ComesBehind follows (lines ++ line ∷ [])
behind-on follows _ line (added lines so) = added (lines ++ line ∷ []) so
behind-on follows _ line (ended first lines is) = ended first (lines ++ line ∷ []) is

-- A line more comes to those of which no row is held back.
passed-on : (last : Option ℕ) (rule : Rule) (lines rows : List (List ℕ)) (line : List ℕ) (row : Option (Vec ℕ Global)) → HasRow rule line row → HavePassed last rule lines rows
    → HavePassed last rule (lines ++ line ∷ []) (rows ++ rows_in (option_to_list row))
passed-on None rule lines rows line row is was = line-laid rule.shows_each rule.may_cut lines rows line row is was
passed-on (Some n) rule lines rows line row is was = record {
  first = was.first;
  others = was.others ++ line ∷ [];
  shown = was.shown;
  more = was.more ++ rows_in (option_to_list row);
  lines_are = ap (λ ls. ls ++ line ∷ []) was.lines_are ∙ append_assoc was.first was.others (line ∷ []);
  rows_are = ap (λ rs. rs ++ rows_in (option_to_list row)) was.rows_are ∙ append_assoc was.shown was.more (rows_in (option_to_list row));
  last = was.last;
  enough = was.enough;
  behind = behind-on rule.follows was.others line was.behind;
  have = line-laid rule.shows_each rule.may_cut was.others was.more line row is was.have;
}

-- The line that ends a listing comes to those of which the last rows are held back.
ended-on : (n : ℕ) (since : Option ℕ) (rule : Rule) (lines rows : List (List ℕ)) (line : List ℕ) (row : Option (Vec ℕ Global)) → is_end line ≡ true → HasRow rule line row → (was : Last n rule lines rows)
    → IsEnough rule.first since n → HaveCome since rule lines was.all → HavePassed (Some n) rule (lines ++ line ∷ []) (rows ++ rows_in (option_to_list row))
ended-on n since rule lines rows line row end is was enough come = record {
  first = lines;
  others = line ∷ [];
  shown = rows;
  more = rows_in (option_to_list row);
  lines_are = refl;
  rows_are = refl;
  last = was;
  enough = enough-by rule.first since n rule.shows_each rule.may_cut lines was.all enough come;
  behind = ended line [] end;
  have = line-laid rule.shows_each rule.may_cut [] [] line row is none;
}

-- What comes from now on is shown too.
let_out-last : (n : ℕ) (since : Option ℕ) (rule : Rule) (lines rows : List (List ℕ)) → rule.follows ≡ true → (was : Last n rule lines rows) → IsEnough rule.first since n → HaveCome since rule lines was.all → HavePassed (Some n) rule lines rows
let_out-last n since rule lines rows so was enough come = record {
  first = lines;
  others = [];
  shown = rows;
  more = [];
  lines_are = sym (append-nil lines);
  rows_are = sym (append-nil rows);
  last = was;
  enough = enough-by rule.first since n rule.shows_each rule.may_cut lines was.all enough come;
  behind = added [] so;
  have = none;
}

pub let_out : (most since : Option ℕ) (rule : Rule) (lines rows : List (List ℕ)) → rule.follows ≡ true → IfSome most (IsEnough rule.first since) → AreHeld most since rule lines rows → AreHeld None since rule lines rows
let_out None since rule lines rows so enough was = was
let_out (Some n) since rule lines rows so enough was = subst (λ o. HavePassed o rule lines rows) (sym was.0) (let_out-last n since rule lines rows so was.1 enough was.2)

laid-by : (end : Bool) (most since now : Option ℕ) (rule : Rule) (lines laid held after : List (List ℕ)) (line : List ℕ) (row : Option (Vec ℕ Global)) → is_end line ≡ end → HasRow rule line row → SendsNone most laid
    → after ≡ kept_rows (if end then None else most) (held ++ rows_in (option_to_list row)) → CountsOn rule.first since line (bit (is_some row)) now → (end ≡ true → IfSome most (IsEnough rule.first since)) → AreHeld most since rule lines (laid ++ held)
    → AreHeld (if end then None else most) now rule (lines ++ line ∷ []) (laid ++ after)
unfolding last-on
laid-by true None since now rule lines laid held after line row end is sends kept counts enough was =
    let P : List (List ℕ) → Type 0 = λ rs. HavePassed rule.last rule (lines ++ line ∷ []) rs in
    let rows : (laid ++ held) ++ rows_in (option_to_list row) ≡ laid ++ after = append_assoc laid held (rows_in (option_to_list row)) ∙ ap (λ rs. laid ++ rs) (sym kept) in
    subst P rows (passed-on rule.last rule lines (laid ++ held) line row is was)
laid-by false None since now rule lines laid held after line row end is sends kept counts enough was =
    let P : List (List ℕ) → Type 0 = λ rs. HavePassed rule.last rule (lines ++ line ∷ []) rs in
    let rows : (laid ++ held) ++ rows_in (option_to_list row) ≡ laid ++ after = append_assoc laid held (rows_in (option_to_list row)) ∙ ap (λ rs. laid ++ rs) (sym kept) in
    subst P rows (passed-on rule.last rule lines (laid ++ held) line row is was)
laid-by true (Some n) since now rule lines laid held after line row end is sends kept counts enough was =
    let P : List (List ℕ) → Type 0 = λ rs. HavePassed rule.last rule (lines ++ line ∷ []) rs in
    let Q : Option ℕ → Type 0 = λ o. HavePassed o rule (lines ++ line ∷ []) ((laid ++ held) ++ rows_in (option_to_list row)) in
    let rows : (laid ++ held) ++ rows_in (option_to_list row) ≡ laid ++ after = append_assoc laid held (rows_in (option_to_list row)) ∙ ap (λ rs. laid ++ rs) (sym kept) in
    subst P rows (subst Q (sym was.0) (ended-on n since rule lines (laid ++ held) line row end is was.1 (enough refl) was.2))
laid-by false (Some n) since now rule lines laid held after line row end is sends kept counts enough was =
    let P : List (List ℕ) → Type 0 = λ rs. AreHeld (Some n) since rule lines rs in
    let Q : List (List ℕ) → Type 0 = λ rs. AreHeld (Some n) now rule (lines ++ line ∷ []) rs in
    let here : AreHeld (Some n) since rule lines held = subst P (ap (λ l. l ++ held) sends) was in
    let come : HaveCome now rule (lines ++ line ∷ []) (here.1.all ++ rows_in (option_to_list row)) = come-by rule.first since now rule.shows_each rule.may_cut lines here.1.all line row is counts here.2 in
    subst Q (sym kept ∙ sym (ap (λ l. l ++ after) sends)) (was.0, last-on n rule lines held line row end is here.1, come)

-- A line more came, and its row is held with those before.
pub laid-on : (most since now : Option ℕ) (rule : Rule) (lines later laid held after : List (List ℕ)) (line : List ℕ) (row : Option (Vec ℕ Global)) → HasRow rule line row → SendsNone most laid
    → after ≡ kept_rows (held_behind line most) (held ++ rows_in (option_to_list row)) → CountsOn rule.first since line (bit (is_some row)) now → (is_end line ≡ true → IfSome most (IsEnough rule.first since)) → later ≡ lines ++ line ∷ []
    → AreHeld most since rule lines (laid ++ held) → AreHeld (held_behind line most) now rule later (laid ++ after)
laid-on most since now rule lines later laid held after line row is sends kept counts enough came was =
    subst (λ ls. AreHeld (held_behind line most) now rule ls (laid ++ after)) (sym came) (laid-by (is_end line) most since now rule lines laid held after line row refl is sends kept counts enough was)

sends_none-by : (end : Bool) (most : Option ℕ) (laid : List (List ℕ)) → SendsNone most laid → SendsNone (if end then None else most) laid
sends_none-by true most laid sends = tt
sends_none-by false most laid sends = sends

-- While rows are held back behind the line none was sent.
pub sends_none-on : (most : Option ℕ) (laid : List (List ℕ)) (line : List ℕ) → SendsNone most laid → SendsNone (held_behind line most) laid
sends_none-on most laid line sends = sends_none-by (is_end line) most laid sends

few-prop : (most : Option ℕ) (held : List (List ℕ)) → IsProp (IfSome most (λ n. length held ≤ n))
few-prop None held = Unit-prop
few-prop (Some n) held = le_prop

few-by : (end : Bool) (most since : Option ℕ) (rule : Rule) (lines laid held : List (List ℕ)) → SendsNone most laid → AreHeld most since rule lines (laid ++ held) → IfSome (if end then None else most) (λ n. length held ≤ n)
few-by true most since rule lines laid held sends was = tt
few-by false None since rule lines laid held sends was = tt
few-by false (Some n) since rule lines laid held sends was =
    let same : held ≡ last_rows n was.1.all = sym (ap (λ l. l ++ held) sends) ∙ was.1.are in
    subst (λ rs. length rs ≤ n) (sym same) (few-last n was.1.all)

-- No more than so many are held back.
pub few-held : (most since : Option ℕ) (rule : Rule) (lines laid held : List (List ℕ)) (line : List ℕ) → SendsNone most laid → ∥ AreHeld most since rule lines (laid ++ held) ∥₁ → IfSome (held_behind line most) (λ n. length held ≤ n)
few-held most since rule lines laid held line sends was = ∥∥₁_elim was (few-prop (held_behind line most) held) (few-by (is_end line) most since rule lines laid held sends)

last-new : (n : ℕ) (rule : Rule) → Last n rule [] []
last-new n rule = record { unended = All-nil (λ l. is_end l ≡ false); all = []; have = none; are = sym (drop_all (0 - n) [] (omega arith)) }

new-by : (most : Option ℕ) (rule : Rule) → most ≡ rule.last → AreHeld most None rule [] []
new-by None rule is = subst (λ o. HavePassed o rule [] []) is none
new-by (Some n) rule is = (sym is, last-new n rule, tt)

-- No line came yet.
pub laid-new : (most : Option ℕ) (rule : Rule) (lines rows : List (List ℕ)) → most ≡ rule.last → lines ≡ [] → rows ≡ [] → AreHeld most None rule lines rows
laid-new most rule lines rows is no_lines no_rows =
    let P : List (List ℕ) → Type 0 = λ ls. AreHeld most None rule ls rows in
    let Q : List (List ℕ) → Type 0 = λ rs. AreHeld most None rule [] rs in
    subst P (sym no_lines) (subst Q (sym no_rows) (new-by most rule is))

pub none_sent : (most : Option ℕ) (laid : List (List ℕ)) → laid ≡ [] → SendsNone most laid
none_sent None laid is = tt
none_sent (Some n) laid is = is

pub none_held : (most : Option ℕ) (laid : List (List ℕ)) → is_some most ≡ false → SendsNone most laid
none_held None laid is = tt
none_held (Some n) laid is = absurd cc

-- ---- the end

-- What is held is laid.
pub laid-of : (most since : Option ℕ) (rule : Rule) (lines rows : List (List ℕ)) → AreHeld most since rule lines rows → AreLaid most rule lines rows
laid-of None since rule lines rows was = was
laid-of (Some n) since rule lines rows was = (was.0, was.1)

front-nil : (front rest : List ℕ) → front ++ rest ≡ [] → front ≡ []
front-nil [] rest is = refl
front-nil (byte ∷ front) rest is = absurd cc

-- No row is both held back and sought from an entry on, or nothing was written.
pub none-written : (most first : Option ℕ) (laid : List (List ℕ)) (written left : List ℕ) → SendsNone most laid → written ++ left ≡ text_of_rows laid → OnSome most (OnSome first (written ≡ []))
none-written None first laid written left sends is = tt
none-written (Some n) None laid written left sends is = tt
none-written (Some n) (Some entry) laid written left sends is = front-nil written left (is ∙ ap text_of_rows sends)

pub not-withheld : (most first : Option ℕ) (written : List ℕ) → (is_some most && is_some first) ≡ false → OnSome most (OnSome first (written ≡ []))
not-withheld None first written is = tt
not-withheld (Some n) None written is = tt
not-withheld (Some n) (Some entry) written is = absurd cc
