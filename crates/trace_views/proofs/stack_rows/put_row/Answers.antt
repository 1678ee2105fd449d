use Rattle.std.proofs.Common.{IsSome, rules, Some, subst}
use Rattle.std.specs.BTreeMap.{get_by}
use Rattle.std.specs.Cmp.Lexicographic.{slice_cmp}
use Rattle.std.specs.Ordering.{nat_cmp}
use Rattle.trace_views.proofs.StackLemmas.{updated_row}
use Rattle.trace_views.proofs.stack_rows.put_row.Goals as goal
use Rattle.trace_views.proofs.stack_rows.put_row.Goals.{in-Ok-insert, in-Err}

pub returns-in-Some : goal.returns-in-Some
returns-in-Some c =
    let found : IsSome (get_by (λ k. slice_cmp nat_cmp c.args.text.now k.items) c.args.rows.now) = subst IsSome c.in-Some.ensures.value (search rules) in
    updated_row c.args.text.now c.args.rows.now (c.get_mut.follows.lender c.args.row) (Some c.args.row) ((c.get_mut.follows.holds c.args.row).3 found)

pub returns : goal.returns
returns c =
    elim c.match-insert.branch [
      | in-Ok-insert w ↦ rw w.result-is (λ other. rw (← c.in-Ok.ensures.items) (updated_row c.in-Ok.text.items c.args.rows.now c.insert.new.self (Some c.args.row) (rw c.get_mut.follows.holds-at-none at w.in-Ok-insert.ensures.updates) other))
      | in-Err w ↦ rw w.result-is tt
    ]
