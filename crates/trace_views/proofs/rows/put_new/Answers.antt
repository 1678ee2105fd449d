use Rattle.std.proofs.Common.{Some}
use Rattle.trace_times.proofs.KeyLemmas.{updated}
use Rattle.trace_views.proofs.rows.put_new.Goals as goal
use Rattle.trace_views.proofs.rows.put_new.Goals.{in-Ok-insert, in-Err}

pub returns-clause-put : goal.returns-clause-put
returns-clause-put g c =
    elim c.match-insert.branch [
      | in-Ok-insert w ↦ rw w.result-is (λ other. rw (← c.in-Ok.ensures.items) (updated c.in-Ok.text.items c.args.rows.now c.insert.new.self (Some c.args.row) w.in-Ok-insert.ensures.updates other))
      | in-Err w ↦ rw w.result-is tt
    ]
