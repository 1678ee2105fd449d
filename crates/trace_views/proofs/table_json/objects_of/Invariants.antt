use Rattle.std.proofs.Common.{◌≤◌, map}
use Rattle.std.specs.List.{AllZip}
use Rattle.serde_json.specs.Data.{items_depth}
use Rattle.serde_json.specs.View.{items_view, view}
use Rattle.trace_views.specs.Lines.{line_pairs}
use Rattle.trace_views.specs.TableObjects.{HasMembers}
use Rattle.trace_views.proofs.table_json.objects_of.Given as goal

abbrev pub invariant-loop-line : goal.invariant-loop-line
invariant-loop-line g l =
    record {
      told : AllZip HasMembers (map (λ line. g.R.Told.members line.0 line.1) (line_pairs (map (λ line. line.now) l.yielded))) (map view l.objects.items);
      flat : items_depth (items_view l.objects.items) ≤ 1;
    }
