use Rattle.std.proofs.Common.{◌≤◌, length}
use Rattle.trace_times.proofs.times.last_digits.Given as goal

abbrev pub invariant-loop-before : goal.invariant-loop-before
invariant-loop-before l = length l.before ≤ length l.text

abbrev pub decreases-loop-before : goal.decreases-loop-before
decreases-loop-before l = length l.before
