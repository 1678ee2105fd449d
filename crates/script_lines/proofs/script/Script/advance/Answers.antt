use Rattle.std.proofs.Common.{rules}
use Rattle.script_lines.proofs.Taken.{taken, some_bytes}
use Rattle.script_lines.proofs.script.Script.advance.Goals as goal

pub returns-clause-advances : goal.returns-clause-advances
returns-clause-advances g c =
    taken _ _ c.read_line.new.text.items c.drop_break.new.text.items c.read_line.ensures.consumes c.in_ok-read_line.ensures.line (some_bytes c.read_line.new.text c.if-is_empty.ensures) c.drop_break.ensures (search rules)
