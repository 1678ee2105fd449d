use Rattle.std.proofs.Common.{◌≡◌, ◌⊎◌, [], ◌-◌, ◌<◌, ◌≤◌, length, drop, vec_len}
use Rattle.std.specs.Io.KnownBytes.{Consumes}
use Rattle.prepared_requests.specs.Ahead.{most, NoneBefore, IsNeeded}
use Rattle.prepared_requests.proofs.ahead.look_ahead.Given as goal

abbrev pub invariant-reads : goal.invariant-reads
invariant-reads g l = record {
  read : Consumes (g.I.Read.remaining l.fn.input) (g.I.Read.remaining l.input) l.bytes.items;
  within : l.passed ≤ length (drop l.start l.bytes.items);
  needed : l.bytes.items ≡ [] ⊎ IsNeeded l.start l.longest l.bytes.items;
  none : 0 < l.passed → NoneBefore l.longest l.passed (drop l.start l.bytes.items);
}

abbrev pub decreases-reads : goal.decreases-reads
decreases-reads g l = most - vec_len l.bytes
