use Rattle.std.specs.Prelude.{All}
use Rattle.tracees.specs.Jobs.{IsReady}
use Rattle.tests_desks.proofs.jobs.jobs.Given as goal

abbrev pub invariant-loop-number : goal.invariant-loop-number
invariant-loop-number g l = All (λ job. IsReady job) l.jobs.items
