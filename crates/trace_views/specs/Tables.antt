-- The rows of a table, of which each stands for one of what is counted.
use Rattle.std.specs.Prelude.{◌≡◌, IsPermutation}
use Rattle.command_line.specs.declared.ranking.Grouping.{Grouping}
use Rattle.command_line.specs.declared.ranking.Grouping.TheVariants as by
use Rattle.command_line.specs.declared.ranking.Ranking.{Ranking}
use Rattle.trace_views.specs.Lines.{row_pairs, kind_pairs, line_pairs}
use Rattle.trace_views.specs.declared.table.Rows.{Rows}
use Rattle.trace_views.specs.declared.table.Rows.TheVariants as rows
use Rattle.trace_views.specs.declared.table.Table.{Table}
use Rattle.trace_views.specs.declared.tallies.Tallies.{Tallies}

-- a row for each function, for each process, or for each kind
abbrev pub HasEachRow : Tallies → Grouping → Rows → Type 0
HasEachRow tallies by.Function (rows.Functions lines) = IsPermutation (row_pairs tallies.functions.rows.entries) (line_pairs lines.items)
HasEachRow tallies by.Process (rows.Processes lines) = IsPermutation (row_pairs tallies.processes.rows.entries) (line_pairs lines.items)
HasEachRow tallies by.Kind (rows.Kinds lines) = IsPermutation (kind_pairs tallies.kinds.rows.items) (line_pairs lines.items)
HasEachRow tallies grouping lines = ⊥

-- of which so many are shown; and how many messages there are, and were lost
pub record IsTableOf (tallies : Tallies) (ranking : Ranking) (table : Table) : Type 0 where
  pub by : table.by ≡ ranking.by
  pub rows : HasEachRow tallies ranking.by table.rows
  pub limit : table.limit ≡ ranking.limit
  pub messages : table.messages ≡ tallies.messages
  pub unread : table.unread ≡ tallies.unread
  pub lost : table.lost ≡ tallies.lost
