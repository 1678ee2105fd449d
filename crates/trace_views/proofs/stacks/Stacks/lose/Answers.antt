use Rattle.std.proofs.Common.{ap, refl}
use Rattle.trace_views.specs.Stacks.{Loses, names_in}
use Rattle.trace_views.proofs.StackLemmas.{Calls, folded_so}
use Rattle.trace_views.proofs.stacks.Stacks.lose.Goals as goal

pub returns : goal.returns
returns c before acts was =
    folded_so before acts Loses _ _ refl (record { names = λ p. ap (λ (l : Calls). names_in l) (c.lose.ensures.calls p); count = c.lose.ensures.count }) was.ends was.calls
