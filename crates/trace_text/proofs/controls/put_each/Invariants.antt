use Rattle.std.proofs.Common.{◌≡◌, ◌++◌, length}
use Rattle.trace_text.specs.Controls.{without_controls}
use Rattle.trace_text.proofs.controls.put_each.Given as goal

-- what is written and what is left make the whole
abbrev pub invariant-bytes : goal.invariant-bytes
invariant-bytes l = l.line.items ++ without_controls l.rest ≡ l.fn.line.items ++ without_controls l.text

abbrev pub decreases-bytes : goal.decreases-bytes
decreases-bytes l = length l.rest
