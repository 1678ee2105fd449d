-- What a writer that holds bytes back holds, and rows of which some of a text was held back.
use Rattle.std.proofs.Common.{◌≡◌, ◌≢◌, ℕ, Bool, true, false, ◌==◌, Option, Some, None, List, [], ◌∷◌, ◌++◌, map, length, take, refl, sym, ◌∙◌, ap, subst, append_assoc, append-nil}
use Rattle.std.specs.Prelude.{Result, Ok, Err, OnOk, is_ok, IfSome}
use Rattle.std.specs.Io.KnownBytes.{append_known, Appends, Keeps, WriteAppends}
use Rattle.std.proofs.KnownBytes.{Keeps-refl, Keeps-trans, append_known-kept, append_known-grown}
use Rattle.std.proofs.Math.Logic.{∥∥₁_map, ∥∥₁_elim}
use Rattle.std.proofs.Math.Seq.{take-length}
use Rattle.std.proofs.lemmas.Bool.{eqb-true, eqb-false}
use Rattle.std.proofs.lemmas.List.Elements.{All-append, All-cons, All-nil, All-push}
use Rattle.shown_listings.specs.Ahead.{EndsRows}
use Rattle.shown_listings.specs.Ends.{text_of_lines, counted}
use Rattle.shown_listings.specs.Listings.{HasRows, LaysOut}
use Rattle.shown_listings.specs.Rows.{shown_byte, whole, HasNoFeed, IsRow, HaveRows, none, with_row, left_out, HavePassed, AreLaid, AreLines, ShowsRows, text_in, text_of_rows, given_lines, with_rule, laid_contents}
use Rattle.shown_listings.specs.declared.look.Rule.{Rule}
use Rattle.shown_listings.specs.declared.laid_out.RowsEnd.{RowsEnd}
use Rattle.shown_listings.specs.declared.laid_out.RowsEnd.TheVariants as ends
use Rattle.shown_listings.proofs.RowLemmas.{no_feed-shown, text_of_rows-append}
use Rattle.shown_listings.proofs.Laying.{IsSame, same_laid}

-- ---- the writer

-- Bytes that it holds back are behind what it held.
pub held-grown : (was now : Option (List ℕ)) (old new bytes : List ℕ) → now ≡ was → new ≡ old ++ bytes → Appends (append_known was old) (append_known now new) (take (length bytes) bytes)
held-grown was now old new bytes same grown =
    let P : List ℕ → Type 0 = λ part. Appends (append_known was old) (append_known now new) part in
    let Q : Option (List ℕ) → Type 0 = λ o. Appends (append_known was old) (append_known o new) bytes in
    subst P (sym (take-length bytes)) (subst Q (sym same) (append_known-grown (append_known was old) was old new bytes (Keeps-refl (append_known was old)) grown))

kept-appends : (a b c : Option (List ℕ)) (bytes : List ℕ) → Keeps a b → Appends b c bytes → Appends a c bytes
kept-appends None b c bytes kept grown = tt
kept-appends (Some x) None c bytes kept grown = absurd kept
kept-appends (Some x) (Some y) None bytes kept grown = absurd grown
kept-appends (Some x) (Some y) (Some z) bytes kept grown = grown ∙ ap (λ l. l ++ bytes) kept

appends-behind : (a b : Option (List ℕ)) (rest bytes : List ℕ) → rest ≡ [] → Appends a b bytes → Appends (append_known a rest) (append_known b rest) bytes
appends-behind None b rest bytes nothing grown = tt
appends-behind (Some x) None rest bytes nothing grown = absurd grown
appends-behind (Some x) (Some y) rest bytes nothing grown =
    ap (λ l. y ++ l) nothing ∙ append-nil y ∙ grown ∙ ap (λ l. l ++ bytes) (sym (append-nil x) ∙ ap (λ l. x ++ l) (sym nothing))

-- Where nothing is held back any more, what comes is given to the writer below.
pub handed-on : {E : Type 0} (was mid now : Option (List ℕ)) (rest : List ℕ) (result : Result ℕ E) (bytes : List ℕ) → rest ≡ [] → Keeps was (append_known mid rest) → WriteAppends mid now result bytes
    → WriteAppends was (append_known now rest) result bytes
handed-on was mid now rest (Ok n) bytes nothing kept wrote = kept-appends was (append_known mid rest) (append_known now rest) (take n bytes) kept (appends-behind mid now rest (take n bytes) nothing wrote)
handed-on was mid now rest (Err fault) bytes nothing kept wrote = Keeps-trans was (append_known mid rest) (append_known now rest) kept (append_known-kept mid now rest wrote)

pub at_ok : {A E : Type 0} (result : Result A E) (P : Type 0) → is_ok result ≡ true → OnOk result P → P
at_ok (Ok x) P is so = so
at_ok (Err fault) P is so = absurd cc

-- What such a writer of rows holds stays so.
pub still : (rule later : Rule) (start then : Option (List ℕ)) (given after left rest : List ℕ) → Keeps (append_known (laid_contents rule start given) left) (append_known (laid_contents later then after) rest)
    → append_known (laid_contents rule start given) left ≡ append_known (laid_contents later then after) rest
unfolding laid_contents
still rule later start then given after left rest kept = ap (λ l. Some l) (sym kept)

-- ---- any line has a row

told_or : Option (List ℕ) → List ℕ
told_or None = []
told_or (Some text) = text

told-so : (told : Option (List ℕ)) → IfSome told (λ text. text ≡ told_or told)
unfolding told_or
told-so None = tt
told-so (Some text) = refl

row_any : List ℕ → List ℕ
row_any line = map shown_byte (told_or (text_in line)) ++ 10 ∷ []

any-row : (cut : Bool) (line : List ℕ) → IsRow cut line (row_any line)
unfolding row_any
any-row cut line =
    let text = told_or (text_in line) in
    let part = map shown_byte text in
    record {
      text = text;
      shows = record {
        before = [];
        part = part;
        after = [];
        shows = whole;
        is = ap (λ l. l ++ 10 ∷ []) (sym (append-nil part));
        one_line = subst HasNoFeed (sym (append-nil part)) (no_feed-shown text);
      };
      same = λ _. told-so (text_in line);
    }

record SomeRows (each cut : Bool) (lines : List (List ℕ)) : Type 0 where
  rows : List (List ℕ)
  have : HaveRows each cut lines rows

some-rows : (each cut : Bool) (lines : List (List ℕ)) → SomeRows each cut lines
some-rows each cut [] = record { rows = []; have = none }
some-rows each cut (line ∷ lines) =
    let more = some-rows each cut lines in
    record { rows = row_any line ∷ more.rows; have = with_row line (row_any line) (any-row cut line) more.have }

have-append : (each cut : Bool) (lines rows later more : List (List ℕ)) → HaveRows each cut lines rows → HaveRows each cut later more → HaveRows each cut (lines ++ later) (rows ++ more)
have-append each cut _ _ later more none have = have
have-append each cut _ _ later more (with_row line row {lines} {rows} is was) have = with_row line row is (have-append each cut lines rows later more was have)
have-append each cut _ _ later more (left_out line {lines} {rows} so was) have = left_out line so (have-append each cut lines rows later more was have)

-- ---- a text behind a line that has begun, line by line

record Split (rest left : List ℕ) : Type 0 where
  lines : List (List ℕ)
  last : List ℕ
  is : given_lines lines last ≡ rest ++ left
  are : AreLines lines last

by-feed : (rest : List ℕ) (x : ℕ) (left : List ℕ) (feed : Bool) → (x == 10) ≡ feed → HasNoFeed rest → Split [] left → (HasNoFeed (rest ++ x ∷ []) → Split (rest ++ x ∷ []) left) → Split rest (x ∷ left)
by-feed rest x left true e own after on = record {
  lines = rest ∷ after.lines;
  last = after.last;
  is = append_assoc rest (10 ∷ text_of_lines after.lines) after.last ∙ ap (λ l. rest ++ 10 ∷ l) after.is ∙ ap (λ y. rest ++ y ∷ left) (sym (eqb-true x 10 e));
  are = record { each = All-cons HasNoFeed rest after.lines own after.are.each; last = after.are.last };
}
by-feed rest x left false e own after on =
    let split = on (All-push (λ byte. byte ≢ 10) rest x own (eqb-false x 10 e)) in
    record { lines = split.lines; last = split.last; is = split.is ∙ append_assoc rest (x ∷ []) left; are = split.are }

split : (rest left : List ℕ) → HasNoFeed rest → Split rest left
split rest [] own = record { lines = []; last = rest; is = sym (append-nil rest); are = record { each = All-nil HasNoFeed; last = own } }
split rest (x ∷ left) own = by-feed rest x left (x == 10) refl own (split [] left (All-nil (λ byte. byte ≢ 10))) (λ more. split (rest ++ x ∷ []) left more)

lines-append : (lines more : List (List ℕ)) → text_of_lines (lines ++ more) ≡ text_of_lines lines ++ text_of_lines more
lines-append [] more = refl
lines-append (line ∷ lines) more = ap (λ l. line ++ 10 ∷ l) (lines-append lines more) ∙ sym (append_assoc line (10 ∷ text_of_lines lines) (text_of_lines more))

-- ---- rows of all of it

shows-weaker : (rule : Rule) (P Q : Type 0) (lines : List (List ℕ)) (was now : Option (List ℕ)) → (Q → P) → ShowsRows rule P lines was now → ShowsRows rule Q lines was now
shows-weaker rule P Q lines was now f shows = record {
  rows = shows.rows;
  held = shows.held;
  are = shows.are;
  written = shows.written;
  left = shows.left;
  front = shows.front;
  all = λ q. shows.all (f q);
  none = shows.none;
  shown = shows.shown;
}

no-last : (last : Option ℕ) (n : ℕ) → last ≡ None → last ≡ Some n → ⊥
no-last None n is so = absurd cc
no-last (Some m) n is so = absurd cc

shows-more : (held : Option ℕ) (rule : Rule) (all : Type 0) (lines more rows : List (List ℕ)) (written left : List ℕ) (was now : Option (List ℕ)) → rule.last ≡ None → (all → ⊥) → ∥ AreLaid held rule lines rows ∥₁
    → written ++ left ≡ text_of_rows rows → Appends was now written → ShowsRows rule all (lines ++ more) was now
shows-more None rule all lines more rows written left was now no_last never are front shown =
    let extra = some-rows rule.shows_each rule.may_cut more in
    let text = text_of_rows extra.rows in
    let P : Option ℕ → Type 0 = λ o. HavePassed o rule lines rows in
    let Q : Option ℕ → Type 0 = λ o. HavePassed o rule (lines ++ more) (rows ++ extra.rows) in
    record {
      rows = rows ++ extra.rows;
      held = None;
      are = ∥∥₁_map are (λ laid. subst Q (sym no_last) (have-append rule.shows_each rule.may_cut lines rows more extra.rows (subst P no_last laid) extra.have));
      written = written;
      left = left ++ text;
      front = sym (append_assoc written left text) ∙ ap (λ l. l ++ text) front ∙ sym (text_of_rows-append rows extra.rows);
      all = λ it. absurd (never it);
      none = tt;
      shown = shown;
    }
shows-more (Some n) rule all lines more rows written left was now no_last never are front shown =
    absurd (∥∥₁_elim are (λ x y. absurd x) (λ laid. no-last rule.last n no_last laid.0))

-- ---- a listing into such a writer

has_more : (asked : Rule) (all : Type 0) (was now : Option (List ℕ)) (lines : List (List ℕ)) (rest left text : List ℕ) (ended : RowsEnd) → asked.last ≡ None → AreLines lines rest → ShowsRows asked (ended ≡ ends.Written) lines was now
    → (all → (ended ≡ ends.Written) × (left ≡ [])) → given_lines lines rest ++ left ≡ text → HasRows asked all text was now
has_more asked all was now lines rest [] text ended no_last are shows to_end is = record {
  lines = lines;
  rest = rest;
  is = sym (append-nil (given_lines lines rest)) ∙ is;
  each = are;
  shows = shows-weaker asked (ended ≡ ends.Written) all lines was now (λ it. (to_end it).0) shows;
}
has_more asked all was now lines rest (x ∷ left) text ended no_last are shows to_end is =
    let more = split rest (x ∷ left) are.last in
    record {
      lines = lines ++ more.lines;
      rest = more.last;
      is = ap (λ l. l ++ more.last) (lines-append lines more.lines) ∙ append_assoc (text_of_lines lines) (text_of_lines more.lines) more.last
          ∙ ap (λ l. text_of_lines lines ++ l) more.is ∙ sym (append_assoc (text_of_lines lines) rest (x ∷ left)) ∙ is;
      each = record { each = All-append HasNoFeed lines more.lines are.each more.are.each; last = more.are.last };
      shows = shows-more shows.held asked all lines more.lines shows.rows shows.written shows.left was now no_last (λ it. let same : x ∷ left ≡ [] = (to_end it).1 in absurd cc) shows.are shows.front shows.shown;
    }

has-ended : (asked rule : Rule) (all : Type 0) (was start now : Option (List ℕ)) (lines : List (List ℕ)) (rest left text : List ℕ) (ended : RowsEnd) → asked.last ≡ None → AreLines lines rest
    → ShowsRows rule (ended ≡ ends.Written) lines start now → (all → (ended ≡ ends.Written) × (left ≡ []))
    → Appends (Some (with_rule asked (counted was ++ []) ++ [])) (append_known (laid_contents rule start (given_lines lines rest)) left) text → HasRows asked all text was now
unfolding laid_contents
has-ended asked rule all was start now lines rest left text ended no_last are shows to_end grown =
    let given = given_lines lines rest in
    let came : with_rule rule (counted start ++ (given ++ left)) ≡ with_rule asked (counted was ++ []) ++ text =
    ap (λ l. with_rule rule l) (sym (append_assoc (counted start) given left)) ∙ grown ∙ ap (λ l. l ++ text) (append-nil (with_rule asked (counted was ++ []))) in
    let same : IsSame asked rule was start (given ++ left) text = same_laid asked rule was start (given ++ left) text came in
    let P : Rule → Type 0 = λ r. ShowsRows r (ended ≡ ends.Written) lines start now in
    let Q : Option (List ℕ) → Type 0 = λ s. ShowsRows asked (ended ≡ ends.Written) lines s now in
    has_more asked all was now lines rest left text ended no_last are (subst Q same.same_start (subst P same.same_rule shows)) to_end same.same_given

-- All that is listed went into a new one.
pub lays_ahead : (asked : Rule) (all : Type 0) (Lists : Option (List ℕ) → Option (List ℕ) → Type 0) (begun_rule : Rule) (was begun_start now after : Option (List ℕ)) (begun : List (List ℕ)) (line held : List ℕ) → asked.last ≡ None
    → begun_rule ≡ asked → begun_start ≡ was → begun ≡ [] → line ≡ [] → held ≡ [] → EndsRows after all now → Lists (append_known (laid_contents begun_rule begun_start (given_lines begun line)) held) after → LaysOut asked all Lists was now
unfolding laid_contents
lays_ahead asked all Lists begun_rule was begun_start now after begun line held no_last same_rule same none_whole none_left none_held end lists =
    let first : append_known (laid_contents begun_rule begun_start (given_lines begun line)) held ≡ append_known (laid_contents asked was []) [] =
    ap (λ r. append_known (laid_contents r begun_start (given_lines begun line)) held) same_rule ∙ ap (λ s. append_known (laid_contents asked s (given_lines begun line)) held) same
    ∙ ap (λ l. append_known (laid_contents asked was (given_lines l line)) held) none_whole ∙ ap (λ l. append_known (laid_contents asked was l) held) none_left ∙ ap (λ l. append_known (laid_contents asked was []) l) none_held in
    record {
      held = with_rule asked (counted was ++ []) ++ [];
      holds = after;
      lists = subst (λ s. Lists s after) first lists;
      laid = λ text grown. has-ended asked end.rule all was end.start now end.lines end.rest end.left text end.ended no_last end.each end.shows end.all
          (subst (λ s. Appends (Some (with_rule asked (counted was ++ []) ++ [])) s text) end.is grown);
    }
