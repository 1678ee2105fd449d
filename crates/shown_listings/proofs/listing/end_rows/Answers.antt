use Rattle.std.proofs.Common.{◌≡◌, ◌≤◌, ◌∙◌, drop, length, subst, sym}
use Rattle.std.proofs.lemmas.List.{drop_all}
use Rattle.shown_listings.specs.Rows.{ShowsRows, given_lines}
use Rattle.shown_listings.specs.declared.laid_out.LaidOut.{LaidOut}
use Rattle.shown_listings.specs.declared.laid_out.RowsEnd.TheVariants as ends
use Rattle.shown_listings.proofs.HeldBack.{at_ok, still}
use Rattle.shown_listings.proofs.listing.end_rows.Goals as goal

pub returns : goal.returns
returns g c =
    let contents = g.W.Write.contents in
    let was = c.args.ahead in
    let handed = c.hand_on.new.self in
    let laid = handed.out in
    let left = drop handed.taken handed.held.items in
    let ended = c.end-ended.result.0 in
    let P : LaidOut g.row.W.Denot g.W.Write → Type 0 = λ l. ShowsRows l.look.rule (ended ≡ ends.Written) l.lines.items l.written.start (contents c.end-ended.result.1) in
    record {
      rule = laid.look.rule;
      start = laid.written.start;
      lines = laid.lines.items;
      rest = laid.line.items;
      left = left;
      ended = ended;
      is = still was.out.look.rule laid.look.rule was.out.written.start laid.written.start (given_lines was.out.lines.items was.out.line.items) (given_lines laid.lines.items laid.line.items) (drop was.taken was.held.items) left c.hand_on.ensures.kept;
      each = laid.lines_whole;
      shows = subst P c.rows_of-laid.ensures c.end-ended.ensures;
      all = λ whole.
          let parts = c.end_with.ensures.whole whole in
          (parts.1, drop_all handed.taken handed.held.items (at_ok c.hand_on.result (length handed.held.items ≤ handed.taken) (sym c.is_ok-is_whole.ensures.value ∙ parts.0) c.hand_on.ensures.all));
    }
