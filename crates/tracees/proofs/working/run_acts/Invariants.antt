use Rattle.std.proofs.Common.{◌≡◌, ◌≤◌, take, vec_len, vec_capacity}
use Rattle.tracees.specs.Jobs.{Acts, AreLetThrough}
use Rattle.tracees.specs.States.{seat_of}
use Rattle.tracees.proofs.working.run_acts.Given as goal

abbrev pub invariant-loop-place : goal.invariant-loop-place
invariant-loop-place g l = record {
  acted : Acts g.P.TracePort.told (seat_of g.K.Bookkeeping l.initial.traced) (take l.place l.acts) l.receipts.items (seat_of g.K.Bookkeeping l.traced);
  room : vec_capacity l.receipts ≡ vec_capacity l.initial.receipts;
  count : vec_len l.receipts ≤ l.place;
  through : AreLetThrough (g.G.Gate.answers l.gate l.initial.traced.tracee.number) (g.G.Gate.told l.gate l.initial.traced.tracee.number) l.place;
}
