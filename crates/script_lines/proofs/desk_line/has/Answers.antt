use Rattle.std.proofs.Common.{sym, ◌∙◌}
use Rattle.script_lines.proofs.Flags.{stands_there}
use Rattle.script_lines.proofs.desk_line.has.Goals as goal

pub returns : goal.returns
returns c = let s = stands_there c.args.letter c.args.letters.now in (λ e. s.0 (sym c.contains.ensures.value ∙ e), λ some. c.contains.ensures.value ∙ s.1 some)
