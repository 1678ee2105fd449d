use Rattle.script_lines.proofs.One.{one_line}
use Rattle.script_lines.proofs.laws.one_line.Goals as goal

pub returns : goal.returns
returns c = one_line
