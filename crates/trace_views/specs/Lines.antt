-- The lines of a table, and the rows that they are of.
use Rattle.std.specs.Prelude.{ℕ, List, Vec, map}
use Rattle.std.specs.declared.alloc.Global.{Global}
use Rattle.trace_views.specs.declared.messages.KindRow.{KindRow}
use Rattle.trace_views.specs.declared.lines.Line.{Line}

-- each row with its text
abbrev pub row_pairs : {R : Type 0} → List (Vec ℕ Global × R) → List (List ℕ × R)
row_pairs entries = map (λ entry. (entry.0.items, entry.1)) entries

-- each kind's count with its word
abbrev pub kind_pairs : List KindRow → List (List ℕ × ℕ)
kind_pairs rows = map (λ row. (row.word.now, row.count)) rows

-- each line's row with its text
abbrev pub line_pairs : {R : Type 0} → List (Line R) → List (List ℕ × R)
line_pairs lines = map (λ line. (line.text.now, line.row)) lines
