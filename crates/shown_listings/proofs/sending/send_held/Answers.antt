use Rattle.std.proofs.Common.{◌≡◌, ◌++◌, ◌∷◌, [], ℕ, List, append_assoc, ◌∙◌, ap, sym}
use Rattle.std.specs.Prelude.{option_to_list}
use Rattle.shown_listings.specs.declared.noted.Noted.{Noted}
use Rattle.shown_listings.specs.Rows.{rows_in, text_of_rows}
use Rattle.shown_listings.proofs.RowLemmas.{sends-next}
use Rattle.shown_listings.proofs.sending.send_held.Goals as goal

abbrev items_of : Noted → List (List ℕ)
items_of noted = noted.items

pub rows-preserved : goal.rows-preserved
rows-preserved g c =
    let was = c.rows in
    let row = c.in-Some.row in
    let held = c.pop_front.new.self.items in
    let laid : c.note.new.self.items ≡ was.laid.items ++ row.items ∷ [] = ap items_of c.note.ensures ∙ ap (λ l. was.laid.items ++ l ∷ []) c.deref.ensures.value in
    let first : was.held.items ≡ row ∷ held = c.pop_front.ensures.items ∙ ap (λ o. option_to_list o ++ held) c.in-Some.is in
    record {
      sends = λ begun. c.send-in-Some.ensures.sends (text_of_rows c.note.new.self.items)
          (sends-next (g.W.Write.contents was.out) was.written was.unsent.taken was.unsent.bytes.items row.items was.laid.items c.note.new.self.items was.invariant.sent (was.invariant.sends begun) laid);
      rows = ap (λ l. l ++ rows_in held) laid ∙ append_assoc was.laid.items (row.items ∷ []) (rows_in held) ∙ ap (λ l. was.laid.items ++ l) (sym (ap (λ l. rows_in l) first)) ∙ was.invariant.rows;
      start = c.send-in-Some.ensures.start ∙ was.invariant.start;
      sent = c.in_ok-send-2.ensures.all;
    }

pub returns-in_err-send-2-clause-sends : goal.returns-in_err-send-2-clause-sends
returns-in_err-send-2-clause-sends g c =
    let was = c.rows in
    let row = c.in-Some.row in
    let laid : c.note.new.self.items ≡ was.laid.items ++ row.items ∷ [] = ap items_of c.note.ensures ∙ ap (λ l. was.laid.items ++ l ∷ []) c.deref.ensures.value in
    λ begun. c.send-in-Some.ensures.sends (text_of_rows c.note.new.self.items)
    (sends-next (g.W.Write.contents was.out) was.written was.unsent.taken was.unsent.bytes.items row.items was.laid.items c.note.new.self.items was.invariant.sent (was.invariant.sends begun) laid)
