use Rattle.script_lines.proofs.desk_line.desk_line.Goals as goal

pub returns-in-Emit : goal.returns-in-Emit
returns-in-Emit c = rw c.in-Emit.is c.emit.ensures
