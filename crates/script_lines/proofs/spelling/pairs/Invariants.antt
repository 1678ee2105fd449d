use Rattle.std.proofs.Common.{length}
use Rattle.script_lines.proofs.Numbers.{IsBegun}
use Rattle.script_lines.proofs.spelling.pairs.Given as goal

abbrev pub invariant-loop-rest : goal.invariant-loop-rest
invariant-loop-rest l = IsBegun l.digits l.rest l.found.items

abbrev pub decreases-loop-rest : goal.decreases-loop-rest
decreases-loop-rest l = length l.rest
