use Rattle.std.proofs.Common.{◌≡◌, ◌≤◌, take, length, reverse}
use Rattle.trace_times.specs.Opens.{from_newest, outside}
use Rattle.trace_times.proofs.open_calls.newest_place.Given as goal

abbrev pub invariant-loop-place : goal.invariant-loop-place
invariant-loop-place g l = record {
  within : l.place ≤ length l.stack.items;
  is : outside (λ call. g.F.PartialEq.eq call.function l.function) (reverse (take l.place l.stack.items)) ≡ outside (λ call. g.F.PartialEq.eq call.function l.function) (reverse l.stack.items);
  from : from_newest (λ call. g.F.PartialEq.eq call.function l.function) (reverse (take l.place l.stack.items)) ≡ from_newest (λ call. g.F.PartialEq.eq call.function l.function) (reverse l.stack.items);
}

abbrev pub decreases-loop-place : goal.decreases-loop-place
decreases-loop-place g l = l.place
