use Rattle.std.proofs.Common.{List, sym, subst}
use Rattle.std.proofs.lemmas.List.Elements.{All-push}
use Rattle.std.specs.Prelude.{All}
use Rattle.tracees.specs.Jobs.{IsReady}
use Rattle.tests_desks.proofs.jobs.jobs.Goals as goal

pub loop-number-preserved : goal.loop-number-preserved
loop-number-preserved g c =
    subst (λ (l : List _). All (λ job. IsReady job) l) (sym c.in_ok-push.ensures.items) (All-push (λ job. IsReady job) c.loop-number.jobs.items c.in_ok-job.job c.loop-number.invariant c.in_ok-job.ensures)
