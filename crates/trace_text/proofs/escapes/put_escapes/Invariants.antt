use Rattle.std.proofs.Common.{◌≡◌, ◌++◌, length}
use Rattle.json.specs.Print.{escape}
use Rattle.trace_text.proofs.escapes.put_escapes.Given as goal

-- what is written and what is left make the whole
abbrev pub invariant-runs : goal.invariant-runs
invariant-runs l = l.out.items ++ escape l.rest ≡ l.fn.out.items ++ escape l.text

abbrev pub decreases-runs : goal.decreases-runs
decreases-runs l = length l.rest
