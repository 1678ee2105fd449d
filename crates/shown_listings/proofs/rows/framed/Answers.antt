use Rattle.std.proofs.lemmas.Result.{IfOk-weaker}
use Rattle.shown_listings.proofs.RowLemmas.{in_row-weaker}
use Rattle.shown_listings.proofs.rows.framed.Goals as goal

pub returns : goal.returns
returns c = IfOk-weaker c.row_of.result _ _ (λ row is. in_row-weaker _ c.args.look.now.rule.may_cut c.args.text.now row.items c.room.ensures is) c.row_of.ensures
