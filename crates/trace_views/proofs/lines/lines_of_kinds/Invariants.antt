use Rattle.std.proofs.Common.{◌≡◌, take}
use Rattle.trace_views.specs.Lines.{line_pairs, kind_pairs}
use Rattle.trace_views.proofs.lines.lines_of_kinds.Given as goal

abbrev pub invariant-loop-row : goal.invariant-loop-row
invariant-loop-row l = line_pairs l.lines.items ≡ kind_pairs (take l.row-index l.rows)
