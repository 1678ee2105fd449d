use Rattle.prepared_requests.specs.Ahead.{NoneWhole}
use Rattle.std.proofs.Common.{true}
use Rattle.prepared_requests.proofs.ahead_scan.find_last.Given as goal

abbrev pub invariant-loop-place : goal.invariant-loop-place
invariant-loop-place l = NoneWhole true l.longest l.place l.bytes
