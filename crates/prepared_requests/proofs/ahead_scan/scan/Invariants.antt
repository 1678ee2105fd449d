use Rattle.prepared_requests.specs.Ahead.{NoneBetween}
use Rattle.prepared_requests.proofs.ahead_scan.scan.Given as goal

abbrev pub invariant-loop-place : goal.invariant-loop-place
invariant-loop-place l = NoneBetween l.longest l.from l.place l.bytes
