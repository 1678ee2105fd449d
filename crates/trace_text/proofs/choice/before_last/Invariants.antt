use Rattle.std.proofs.Common.{◌≡◌, length}
use Rattle.trace_text.specs.Choosing.{before_last}
use Rattle.trace_text.proofs.choice.before_last.Given as goal

-- the bytes passed over aren't such
abbrev pub invariant-loop-last : goal.invariant-loop-last
invariant-loop-last l = before_last l.byte l.front ≡ before_last l.byte l.text

abbrev pub decreases-loop-last : goal.decreases-loop-last
decreases-loop-last l = length l.front
