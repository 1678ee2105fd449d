use Rattle.std.proofs.Common.{◌≤◌}
use Rattle.serde_json.specs.Data.{items_depth}
use Rattle.serde_json.specs.View.{items_view}
use Rattle.trace_views.proofs.table.Table.shares.Given as goal

abbrev pub invariant-loop-bar : goal.invariant-loop-bar
invariant-loop-bar l = items_depth (items_view l.shares.items) ≤ 0
