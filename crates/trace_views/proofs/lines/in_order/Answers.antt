use Rattle.std.proofs.lemmas.List.Sorted.{IsPermutation-map}
use Rattle.trace_views.proofs.lines.in_order.Goals as goal

pub returns : goal.returns
returns g c = IsPermutation-map (λ line. (line.text.now, line.row)) _ _ c.sort_by.ensures.permutation
