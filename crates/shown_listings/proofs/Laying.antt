-- What a listing into a writer of rows leaves written.
use Rattle.std.proofs.Common.{◌≡◌, ℕ, Bool, true, false, Option, Some, None, List, [], ◌∷◌, ◌++◌, refl, sym, ◌∙◌, ap, subst, append-nil, arith}
use Rattle.std.specs.Prelude.{Result, Ok, Err, OnOk, OnSome, IfErr}
use Rattle.std.specs.Io.KnownBytes.{Appends}
use Rattle.shown_listings.specs.declared.look.Rule.{Rule}
use Rattle.shown_listings.specs.Ends.{counted, end_contents}
use Rattle.script_runner.specs.declared.fault.SimFault.TheVariants as faults
use Rattle.faults.specs.declared.complaint.Complaint.{Complaint}
use Rattle.faults.specs.declared.complaint.Complaint.TheVariants as complaints
use Rattle.shown_listings.specs.declared.laid_out.RowsEnd.TheVariants as ends
use Rattle.shown_listings.specs.Listings.{Listing, HasRows, LaysOut, IsLaidOut}
use Rattle.shown_listings.specs.Rows.{AreLines, ShowsRows, given_lines, bit, told_last, with_rule, laid_contents}
use Rattle.shown_listings.proofs.EndHanded.{same_end}

bit-same : (a b : Bool) → bit a ≡ bit b → a ≡ b
bit-same true true e = refl
bit-same false false e = refl
bit-same true false e = absurd cc
bit-same false true e = absurd cc

told-same : (a b : Option ℕ) → told_last a ≡ told_last b → a ≡ b
told-same None None e = refl
told-same (Some n) (Some m) e = let same : n ≡ m = omega arith in ap (λ k. Some k) same
told-same None (Some m) e = absurd (omega arith)
told-same (Some n) None e = absurd (omega arith)

pub record IsSame (rule rule_then : Rule) (start later : Option (List ℕ)) (given text : List ℕ) : Type 0 where
  pub same_rule : rule_then ≡ rule
  pub same_start : later ≡ start
  pub same_given : given ≡ text

-- What came to a writer since it was made tells what it was made for.
pub same_laid : (rule rule_then : Rule) (start later : Option (List ℕ)) (given text : List ℕ)
    → Appends (laid_contents rule start []) (laid_contents rule_then later given) text → IsSame rule rule_then start later given text
unfolding laid_contents end_contents
same_laid rule rule_then start later given text grown =
    let first : bit rule_then.shows_each ≡ bit rule.shows_each = cc in
    let second : bit rule_then.may_cut ≡ bit rule.may_cut = cc in
    let third : told_last rule_then.last ≡ told_last rule.last = cc in
    let fourth : bit rule_then.follows ≡ bit rule.follows = cc in
    let fifth : told_last rule_then.first ≡ told_last rule.first = cc in
    let more : counted later ++ given ≡ (counted start ++ []) ++ text = cc in
    let each : rule_then.shows_each ≡ rule.shows_each = bit-same rule_then.shows_each rule.shows_each first in
    let cut : rule_then.may_cut ≡ rule.may_cut = bit-same rule_then.may_cut rule.may_cut second in
    let last : rule_then.last ≡ rule.last = told-same rule_then.last rule.last third in
    let follows : rule_then.follows ≡ rule.follows = bit-same rule_then.follows rule.follows fourth in
    let from : rule_then.first ≡ rule.first = told-same rule_then.first rule.first fifth in
    let same = same_end start later given text more in
    record { same_rule = λ i. record { shows_each = each i; may_cut = cut i; last = last i; follows = follows i; first = from i }; same_start = same.0; same_given = same.1 }

-- A text that came to it was laid out.
has_rows : (asked : Rule) (whole : Type 0) (rule : Rule) (was start now : Option (List ℕ)) (lines : List (List ℕ)) (rest text : List ℕ)
    → AreLines lines rest → ShowsRows rule whole lines start now → Appends (laid_contents asked was []) (laid_contents rule start (given_lines lines rest)) text → HasRows asked whole text was now
has_rows asked whole rule was start now lines rest text are shows grown =
    let same = same_laid asked rule was start (given_lines lines rest) text grown in
    let P : Rule → Type 0 = λ r. ShowsRows r whole lines start now in
    let Q : Option (List ℕ) → Type 0 = λ s. ShowsRows asked whole lines s now in
    record { lines = lines; rest = rest; is = same.same_given; each = are; shows = subst Q same.same_start (subst P same.same_rule shows) }

-- All that is listed went into a new one.
pub lays_out : (asked : Rule) (whole : Type 0) (Lists : Option (List ℕ) → Option (List ℕ) → Type 0) (begun_rule rule : Rule) (was begun_start start now : Option (List ℕ)) (begun : List (List ℕ)) (line : List ℕ)
    (lines : List (List ℕ)) (rest : List ℕ) → begun_rule ≡ asked → begun_start ≡ was → begun ≡ [] → line ≡ [] → AreLines lines rest → ShowsRows rule whole lines start now
    → Lists (laid_contents begun_rule begun_start (given_lines begun line)) (laid_contents rule start (given_lines lines rest)) → LaysOut asked whole Lists was now
unfolding laid_contents
lays_out asked whole Lists begun_rule rule was begun_start start now begun line lines rest same_rule same none_whole none_left are shows lists =
    let after : Option (List ℕ) = laid_contents rule start (given_lines lines rest) in
    let first : laid_contents begun_rule begun_start (given_lines begun line) ≡ laid_contents asked was [] =
    ap (λ r. laid_contents r begun_start (given_lines begun line)) same_rule ∙ ap (λ s. laid_contents asked s (given_lines begun line)) same
    ∙ ap (λ l. laid_contents asked was (given_lines l line)) none_whole ∙ ap (λ l. laid_contents asked was l) none_left in
    record {
      held = with_rule asked (counted was ++ []);
      holds = after;
      lists = subst (λ s. Lists s after) first lists;
      laid = λ text grown. has_rows asked whole rule was start now lines rest text are shows grown;
    }

-- ---- rows that are laid out in memory, and written then

front-nil : (front rest : List ℕ) → front ++ rest ≡ [] → front ≡ []
front-nil [] rest is = refl
front-nil (byte ∷ front) rest is = absurd cc

on-nil : (held first : Option ℕ) (text written left : List ℕ) → written ++ left ≡ text → OnSome held (OnSome first (text ≡ [])) → OnSome held (OnSome first (written ≡ []))
on-nil None first text written left is none = tt
on-nil (Some n) None text written left is none = tt
on-nil (Some n) (Some entry) text written left is none = front-nil written left (is ∙ none)

shows_text : (rule : Rule) (whole all : Type 0) (lines : List (List ℕ)) (was now : Option (List ℕ)) (text written left : List ℕ) → whole → written ++ left ≡ text → (all → left ≡ []) → Appends was now written
    → ShowsRows rule whole lines (Some []) (Some text) → ShowsRows rule all lines was now
shows_text rule whole all lines was now text written left is front to_end shown laid = record {
  rows = laid.rows;
  held = laid.held;
  are = laid.are;
  written = written;
  left = left;
  front = front ∙ laid.shown ∙ sym (append-nil laid.written) ∙ ap (λ l. laid.written ++ l) (sym (laid.all is)) ∙ laid.front;
  all = to_end;
  none = on-nil laid.held rule.first text written left front (subst (λ l. OnSome laid.held (OnSome rule.first (l ≡ []))) (sym laid.shown) laid.none);
  shown = shown;
}

lays_text : (rule : Rule) (whole all : Type 0) (Lists : Option (List ℕ) → Option (List ℕ) → Type 0) (was now : Option (List ℕ)) (text written left : List ℕ) → whole → written ++ left ≡ text → (all → left ≡ []) → Appends was now written
    → LaysOut rule whole Lists (Some []) (Some text) → LaysOut rule all Lists was now
lays_text rule whole all Lists was now text written left is front to_end shown laid = record {
  held = laid.held;
  holds = laid.holds;
  lists = laid.lists;
  laid = λ came grown.
      let has = laid.laid came grown in
      record { lines = has.lines; rest = has.rest; is = has.is; each = has.each; shows = shows_text rule whole all has.lines was now text written left is front to_end shown has.shows };
}

-- A listing that ended well is laid out so.
pub laid_from : (rule : Rule) (whole : Type 0) (Lists : Listing) (told : Result Unit Complaint) (was now : Option (List ℕ)) (text written left : List ℕ) → whole → written ++ left ≡ text → OnOk told (left ≡ []) → Appends was now written
    → IfErr told (λ complaint. complaint ≡ complaints.Fault faults.Write None) → LaysOut rule whole (Lists (Ok tt)) (Some []) (Some text) → IsLaidOut rule Lists told was now
laid_from rule whole Lists (Ok done) was now text written left is front to_end shown told laid =
    (ends.Written, Ok tt, lays_text rule whole (ends.Written ≡ ends.Written) (Lists (Ok tt)) was now text written left is front (λ _. to_end) shown laid, refl)
laid_from rule whole Lists (Err complaint) was now text written left is front to_end shown told laid =
    (ends.Unwritten, Ok tt, lays_text rule whole (ends.Unwritten ≡ ends.Written) (Lists (Ok tt)) was now text written left is front (λ e. absurd cc) shown laid, (told, refl))
