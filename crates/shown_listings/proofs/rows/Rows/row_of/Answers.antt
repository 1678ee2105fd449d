use Rattle.std.proofs.lemmas.Result.{IfOk-weaker}
use Rattle.shown_listings.proofs.RowLemmas.{told-text, told-none, row-told, matched}
use Rattle.shown_listings.proofs.rows.Rows.row_of.Goals as goal

pub returns-in-Some : goal.returns-in-Some
returns-in-Some c =
    let line = c.args.line.now in
    let text = c.in-Some.text.now in
    IfOk-weaker c.entry_row.result _ _ (λ row is. matched row _ _ _ (λ r shows. row-told c.args.look.now.rule.may_cut line text r.items (told-text line _ text c.in-Some.ensures c.in_ok-object.ensures) shows) is) c.entry_row.ensures

pub returns : goal.returns
returns c =
    let line = c.args.line.now in
    IfOk-weaker c.notice_row.result _ _ (λ row is. matched row _ _ _ (λ r shows. row-told c.args.look.now.rule.may_cut line shows.0 r.items (told-none line _ shows.0 c.in-None.ensures c.in_ok-object.ensures) shows.1) is) c.notice_row.ensures
