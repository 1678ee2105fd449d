use Rattle.std.proofs.Common.{◌+◌, ◌*◌}
use Rattle.trace_text.proofs.message.+opening.Given as goal

abbrev pub decreases-opened_behind : goal.decreases-opened_behind
decreases-opened_behind l = 2 * l.room

abbrev pub decreases-opened_at : goal.decreases-opened_at
decreases-opened_at l = 2 * l.room + 1
