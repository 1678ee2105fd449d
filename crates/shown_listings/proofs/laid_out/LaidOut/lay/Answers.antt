use Rattle.std.proofs.Common.{◌≡◌, ◌++◌, ◌∷◌, [], ◌≤◌, ℕ, List, Option, length, refl, None, Bool, true, false, ◌∙◌, ap, subst, sym}
use Rattle.std.specs.Prelude.{IfSome, MatchOption, is_some, if◌then◌else◌, option_to_list}
use Rattle.std.specs.Int.{from_bool}
use Rattle.std.proofs.Math.Logic.{∥∥₁_map}
use Rattle.shown_listings.specs.declared.noted.Noted.{Noted}
use Rattle.shown_listings.specs.Since.{CountsOn, IsEnough}
use Rattle.shown_listings.specs.Rows.{IsRow, MayLack, AreHeld, SendsNone, bit, is_end, held_behind, kept_rows, rows_in}
use Rattle.shown_listings.proofs.HeldRows.{laid-on, sends_none-on, few-held}
use Rattle.shown_listings.proofs.RowLemmas.{lines-laid}
use Rattle.shown_listings.proofs.laid_out.LaidOut.lay.Goals as goal

abbrev items_of : Noted → List (List ℕ)
items_of noted = noted.items

bit-of : (b : Bool) → from_bool b ≡ bit b
bit-of true = refl
bit-of false = refl

pub hold-requires : goal.hold-requires
hold-requires g c =
    let was = c.args.self.now in
    let held = rows_in was.held.items in
    subst (λ o. IfSome o (λ n. length held ≤ n)) (sym c.held_behind-most.ensures) (few-held was.most was.since was.look.rule was.lines.items was.laid.items held c.deref-2.result.now was.sends_none was.rows_each)

pub invariant_of-self-3-clause-lines_whole : goal.invariant_of-self-3-clause-lines_whole
invariant_of-self-3-clause-lines_whole g c =
    let was = c.args.self.now in
    lines-laid was.lines.items c.note.new.self.items was.line.items was.lines_whole (ap items_of c.note.ensures ∙ ap (λ l. was.lines.items ++ l ∷ []) c.deref-4.ensures.value)

pub invariant_of-self-3-clause-rows_each : goal.invariant_of-self-3-clause-rows_each
invariant_of-self-3-clause-rows_each g c =
    let was = c.args.self.now in
    let rule = was.look.rule in
    let line = was.line.items in
    let row = c.in_ok-row.row in
    let lines = c.note.new.self.items in
    let held = rows_in was.held.items in
    let after = rows_in c.hold.new.held.items in
    let most : c.held_behind-most.result ≡ held_behind line was.most = c.held_behind-most.ensures ∙ ap (λ l. held_behind l was.most) c.deref-2.ensures.value in
    let kept : after ≡ kept_rows (held_behind line was.most) (held ++ rows_in (option_to_list row)) = c.in_ok-hold.ensures.ok ∙ ap (λ o. kept_rows o (held ++ rows_in (option_to_list row))) most in
    let came : lines ≡ was.lines.items ++ line ∷ [] = ap items_of c.note.ensures ∙ ap (λ l. was.lines.items ++ l ∷ []) c.deref-4.ensures.value in
    let P : List ℕ → Type 0 = λ l. MatchOption row (MayLack rule.shows_each l) (λ r. IsRow rule.may_cut l r.items) in
    let since = c.rows_since-since.result in
    let Q : Option ℕ → Type 0 = λ o. AreHeld o since rule lines (was.laid.items ++ after) in
    let is : P line = subst P c.deref.ensures.value c.in_ok-row.ensures in
    let held_none : is_end line ≡ true → c.held_behind-most.result ≡ None = λ end. most ∙ ap (λ (b : Bool). if b then None else was.most) end in
    let more : c.from-more.result ≡ bit (is_some row) = c.from-more.ensures ∙ ap from_bool c.is_some.ensures ∙ bit-of (is_some row) in
    let counts : CountsOn rule.first was.since line (bit (is_some row)) since =
    subst (λ n. CountsOn rule.first was.since line n since) more (subst (λ l. CountsOn rule.first was.since l c.from-more.result since) c.deref-3.ensures.value c.rows_since-since.ensures) in
    let enough : is_end line ≡ true → IfSome was.most (IsEnough rule.first was.since) = λ end. c.if-is_short.ensures refl (held_none end) in
    ∥∥₁_map was.rows_each (λ (laid : AreHeld was.most was.since rule was.lines.items (was.laid.items ++ held)). subst Q (sym most) (laid-on was.most was.since since rule was.lines.items lines was.laid.items held after line row is was.sends_none kept counts enough came laid))

pub invariant_of-self-3-clause-sends_none : goal.invariant_of-self-3-clause-sends_none
invariant_of-self-3-clause-sends_none g c =
    let was = c.args.self.now in
    subst (λ o. SendsNone o was.laid.items) (sym c.held_behind-most.ensures) (sends_none-on was.most was.laid.items c.deref-2.result.now was.sends_none)
