use Rattle.std.proofs.Common.{◌≡◌, ◌≤◌, ◌-◌, length, take}
use Rattle.json.specs.Print.{escape}
use Rattle.trace_text.proofs.escapes.plain_size.Given as goal

-- the bytes so far are put as they are
abbrev pub invariant-bytes : goal.invariant-bytes
invariant-bytes l = record {
  within : l.size ≤ length l.text;
  plain : escape (take l.size l.text) ≡ take l.size l.text;
}

abbrev pub decreases-bytes : goal.decreases-bytes
decreases-bytes l = length l.text - l.size
