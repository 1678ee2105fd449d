use Rattle.trace_views.proofs.EndsLemmas.{put_there}
use Rattle.trace_views.proofs.ends.put.Goals as goal
use Rattle.trace_views.proofs.ends.put.Goals.{in-Ok-insert, in-Err}

pub returns : goal.returns
returns c =
    elim c.match-insert.branch [
      | in-Ok-insert w ↦ rw w.result-is (λ other. rw (← c.in-Ok.ensures.items) (put_there c.in-Ok.name.items c.args.names.now c.insert.new.self w.in-Ok-insert.ensures.updates other))
      | in-Err w ↦ rw w.result-is tt
    ]
