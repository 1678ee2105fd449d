use Rattle.script_lines.specs.Spellings.{texts}
use Rattle.script_lines.proofs.Keywords.{not_sole}
use Rattle.script_lines.proofs.arguments.sole_within.Goals as goal

pub returns-in_err-one : goal.returns-in_err-one
returns-in_err-one c = rw c.from_residual.ensures (not_sole _ (texts c.args.words.now) c.in_err-one.ensures)
