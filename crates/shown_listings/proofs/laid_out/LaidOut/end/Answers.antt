use Rattle.std.proofs.Common.{◌≡◌, ◌≤◌, ◌++◌, [], ℕ, List, Option, drop, length, append_assoc, ◌∙◌, ap, subst, sym}
use Rattle.std.specs.Prelude.{Result, Ok, Err, IsOk, OnOk}
use Rattle.std.specs.Io.KnownBytes.{Appends}
use Rattle.std.proofs.KnownBytes.{Appends-kept}
use Rattle.std.proofs.lemmas.List.{drop_all}
use Rattle.shown_listings.specs.Rows.{AreHeld, Sends, rows_in, text_of_rows}
use Rattle.std.proofs.Math.Logic.{∥∥₁_map}
use Rattle.shown_listings.proofs.HeldRows.{laid-of, none-written, not-withheld}
use Rattle.shown_listings.proofs.RowLemmas.{text_of_rows-append}
use Rattle.shown_listings.proofs.laid_out.LaidOut.end.Goals as goal

at_ok : {A E : Type 0} (result : Result A E) (P : Type 0) → IsOk result → OnOk result P → P
at_ok (Ok x) P is so = so
at_ok (Err fault) P is so = absurd cc

pub returns-then-is_withheld : goal.returns-then-is_withheld
returns-then-is_withheld g c =
    let was = c.args.self in
    let last = drop was.unsent.taken was.unsent.bytes.items in
    record {
      rows = was.laid.items ++ rows_in was.held.items;
      held = was.most;
      are = ∥∥₁_map was.rows_each (laid-of was.most was.since was.look.rule was.lines.items (was.laid.items ++ rows_in was.held.items));
      written = was.written.bytes;
      left = last ++ text_of_rows (rows_in was.held.items);
      front = sym (append_assoc was.written.bytes last (text_of_rows (rows_in was.held.items))) ∙ ap (λ l. l ++ text_of_rows (rows_in was.held.items)) was.sends.is
          ∙ sym (text_of_rows-append was.laid.items (rows_in was.held.items));
      all = λ whole. absurd cc;
      none = none-written was.most was.look.rule.first was.laid.items was.written.bytes last was.sends_none was.sends.is;
      shown = was.sends.held;
    }

pub returns : goal.returns
returns g c =
    let was = c.args.self in
    let now = c.send_held-sent.new in
    let sent = c.send_held-sent.ensures in
    let more = text_of_rows (rows_in now.held.items) in
    let last = drop now.unsent.taken now.unsent.bytes.items in
    let sends : Sends (g.W.Write.contents now.out) now.written last (text_of_rows now.laid.items) = sent.sends was.sends in
    let P : List (List ℕ) → Type 0 = λ rows. ∥ AreHeld was.most was.since was.look.rule was.lines.items rows ∥₁ in
    let Q : Option (List ℕ) → Type 0 = λ start. Appends start (g.W.Write.contents now.out) now.written.bytes in
    let Sent : Type 0 = (length now.unsent.bytes.items ≤ now.unsent.taken) × (rows_in now.held.items ≡ []) in
    record {
      rows = now.laid.items ++ rows_in now.held.items;
      held = was.most;
      are = ∥∥₁_map (subst P (sym sent.rows) was.rows_each) (laid-of was.most was.since was.look.rule was.lines.items (now.laid.items ++ rows_in now.held.items));
      written = now.written.bytes;
      left = last ++ more;
      front = sym (append_assoc now.written.bytes last more) ∙ ap (λ l. l ++ more) sends.is ∙ sym (text_of_rows-append now.laid.items (rows_in now.held.items));
      all = λ whole.
          let all : Sent = at_ok c.send_held-sent.result Sent (c.written_out-flushed.ensures.well (c.end_of-end.ensures.written whole)) sent.all in
          ap (λ l. l ++ more) (drop_all now.unsent.taken now.unsent.bytes.items all.0) ∙ ap (λ rows. text_of_rows rows) all.1;
      none = not-withheld was.most was.look.rule.first now.written.bytes (sym c.is_withheld-is_withheld.ensures ∙ c.if-is_withheld.false);
      shown = Appends-kept was.written.start (g.W.Write.contents now.out) (g.W.Write.contents c.written_out-flushed.new.out) now.written.bytes (subst Q sent.start sends.held) c.written_out-flushed.ensures.kept;
    }
