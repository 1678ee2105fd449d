use Rattle.std.proofs.Common.{rules}
use Rattle.trace_text.proofs.Between.{last_decides, middle_differs}
use Rattle.prepared_requests.proofs.holder.is_quoted.Goals as goal

pub returns-then-eq : goal.returns-then-eq
returns-then-eq c = last_decides c.eq.result c.args.shown.now c.in-Some.rest.now c.in-Some-split_last.middle.now c.args.asked.now c.in-Some.first.now c.in-Some-split_last.last.now 39 39 c.eq.ensures c.if-eq.true (search rules) (search rules) c.if-first-eq39.true

pub returns-else-eq : goal.returns-else-eq
returns-else-eq c = middle_differs c.eq.result c.args.shown.now c.in-Some.rest.now c.in-Some-split_last.middle.now c.args.asked.now c.in-Some.first.now c.in-Some-split_last.last.now 39 39 c.eq.ensures c.if-eq.false (search rules) (search rules)
