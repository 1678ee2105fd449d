use Rattle.std.proofs.Common.{arith}
use Rattle.script_lines.proofs.Keywords.{keyword_found, keyword_missing}
use Rattle.script_lines.proofs.keyword.keyword_behind.Goals as goal

pub returns-in_err-named : goal.returns-in_err-named
returns-in_err-named c = rw c.from_residual.ensures (keyword_missing c.args.words.now _ (omega arith) c.in_err-named.ensures)

pub returns : goal.returns
returns c = keyword_found c.args.words.now _ c.in_ok-named.field-0 (omega arith) c.in_ok-named.ensures
