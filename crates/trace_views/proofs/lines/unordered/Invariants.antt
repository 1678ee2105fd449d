use Rattle.std.proofs.Common.{◌≡◌, ◌++◌}
use Rattle.trace_views.specs.Lines.{line_pairs, row_pairs}
use Rattle.trace_views.proofs.lines.unordered.Given as goal

abbrev pub invariant-loop-text : goal.invariant-loop-text
invariant-loop-text g l = line_pairs l.lines.items ++ row_pairs l.text-iterator ≡ row_pairs l.rows.entries
