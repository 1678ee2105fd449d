use Rattle.std.proofs.Common.{◌≡◌, ◌≤◌, ◌-◌, length, take}
use Rattle.json.specs.Print.{escape}
use Rattle.trace_text.proofs.escapes.plain_blocks.Given as goal

-- the bytes so far are put as they are
abbrev pub invariant-runs : goal.invariant-runs
invariant-runs l = record {
  within : l.size ≤ length l.text;
  plain : escape (take l.size l.text) ≡ take l.size l.text;
}

abbrev pub decreases-runs : goal.decreases-runs
decreases-runs l = length l.text - l.size
