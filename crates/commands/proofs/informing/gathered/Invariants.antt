use Rattle.std.proofs.Common.{◌≡◌}
use Rattle.commands.proofs.informing.gathered.Given as goal

abbrev pub invariant-loop-one : goal.invariant-loop-one
invariant-loop-one l = l.info.outlined ≡ l.fn.summary.outlined
