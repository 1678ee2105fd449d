use Rattle.std.proofs.Common.{IsSome, Some, refl, ap, subst, ◌∙◌, unwrap_or, option_map}
use Rattle.trace_views.specs.Rows.{counts_of_process, process_counts_sent_to, no_process_counts}
use Rattle.trace_times.proofs.KeyLemmas.{updated}
use Rattle.trace_views.proofs.processes.count_sent.Goals as goal

pub returns-in-Some : goal.returns-in-Some
returns-in-Some c =
    let had = c.in-Some.ensures.value in
    let row = c.in_ok-row.field-0 in
    let counted = rw c.in_ok-row.ensures at c.sent_to.ensures in (
      row,
      updated c.args.process.now c.args.rows.now (c.get_mut.follows.lender row) (Some row) ((c.get_mut.follows.holds row).3 (subst IsSome had refl)),
      counted ∙ ap (λ o. process_counts_sent_to (unwrap_or (option_map counts_of_process o) no_process_counts)) had,
    )
