use Rattle.std.proofs.Common.{◌≡◌}
use Rattle.trace_views.specs.Stacks.{stack_text}
use Rattle.trace_views.proofs.StackLemmas.{names_between}
use Rattle.trace_views.proofs.stacks.put_names.Given as goal

abbrev pub invariant-loop-place : goal.invariant-loop-place
invariant-loop-place l = l.text.items ≡ stack_text l.initial.text.items (names_between l.stack.items l.first l.place)
