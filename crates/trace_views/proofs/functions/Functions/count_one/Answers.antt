use Rattle.std.proofs.Common.{IsSome, Some, refl, ap, subst, ◌∙◌, unwrap_or, option_map}
use Rattle.trace_views.specs.Rows.{counts_of_function, function_counts_with, no_function_counts}
use Rattle.trace_times.proofs.KeyLemmas.{updated}
use Rattle.trace_views.proofs.functions.Functions.count_one.Goals as goal

pub returns-in-Some : goal.returns-in-Some
returns-in-Some c =
    let had = c.in-Some.ensures.value in
    let row = c.in_ok-row.field-0 in (
      row,
      updated c.args.function.now c.args.self.now.rows (c.get_mut.follows.lender row) (Some row) ((c.get_mut.follows.holds row).3 (subst IsSome had refl)),
      c.in_ok-row.ensures ∙ ap (λ o. function_counts_with c.args.facts.now.kind.now (unwrap_or (option_map counts_of_function o) no_function_counts)) had,
    )
