use Rattle.std.proofs.Common.{ℕ, ◌<◌, length, get_or}
use Rattle.tracees.specs.Jobs.{IsSameJob, IsReserved}
use Rattle.tracees.proofs.threads.reserve_all.Given as goal

abbrev pub invariant-loop-place : goal.invariant-loop-place
invariant-loop-place g l = record {
  same : (k : ℕ) (d : _) → k < length l.initial.jobs → IsSameJob (get_or l.initial.jobs k d) (get_or l.jobs k d);
  room : (k : ℕ) (d : _) → k < l.place → IsReserved (get_or l.jobs k d);
}
