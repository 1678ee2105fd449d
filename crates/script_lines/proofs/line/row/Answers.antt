use Rattle.std.proofs.lemmas.Result.{IfOk-weaker}
use Rattle.script_lines.specs.Spellings.{texts}
use Rattle.script_lines.specs.Table.{HeldRow}
use Rattle.script_lines.proofs.Words.{none_found, row_found}
use Rattle.script_lines.proofs.line.row.Goals as goal

pub returns : goal.returns
returns c = IfOk-weaker c.at_desk.result _ _ (λ o. row_found c.args.keyword (texts c.args.words.now) o c.in_default.ensures (none_found (HeldRow c.args.keyword (texts c.args.words.now)) _ c.in_default-2.is c.in_ok-line.ensures)) c.at_desk.ensures
