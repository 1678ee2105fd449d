use Rattle.script_lines.specs.Spellings.{texts}
use Rattle.script_lines.specs.Table.{Resumes}
use Rattle.script_lines.proofs.Keywords.{behind, no_keyword}
use Rattle.script_lines.proofs.line.resume.Goals as goal

pub returns-in_err-kind : goal.returns-in_err-kind
returns-in_err-kind c = rw c.from_residual.ensures (no_keyword Resumes (texts c.args.words.now) (λ k others e. c.in_err-kind.ensures (k, others) e))

pub returns : goal.returns
returns c = behind Resumes (texts c.args.words.now) (texts c.in_ok-kind.others.now) c.in_ok-kind.kind c.resumed.result c.in_ok-kind.ensures c.resumed.ensures
