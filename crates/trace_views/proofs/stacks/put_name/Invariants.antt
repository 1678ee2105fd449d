use Rattle.std.proofs.Common.{◌≡◌, ◌++◌, take}
use Rattle.trace_views.specs.Stacks.{one_name}
use Rattle.trace_views.proofs.stacks.put_name.Given as goal

abbrev pub invariant-loop-byte : goal.invariant-loop-byte
invariant-loop-byte l = l.text.items ≡ l.initial.text.items ++ one_name (take l.byte-index l.name)
