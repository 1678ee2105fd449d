use Rattle.std.proofs.Common.{◌∙◌}
use Rattle.script_lines.proofs.Flags.{has_letters}
use Rattle.script_lines.proofs.desk_line.flags_among.Goals as goal

pub returns-then-letters-count : goal.returns-then-letters-count
returns-then-letters-count c = has_letters c.args.letters.now c.flags_named-flags.result c.flags_named-flags.ensures (c.if-letters-count.true ∙ c.count.ensures)
