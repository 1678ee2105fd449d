use Rattle.std.proofs.Common.{refl, sym, subst}
use Rattle.trace_text.specs.MessageFacts.{as_told}
use Rattle.trace_views.specs.Counting.{with_read}
use Rattle.trace_views.specs.Rows.{AreKindsCounted}
use Rattle.trace_views.proofs.KindLemmas.{counted_again, counted_first}
use Rattle.trace_views.proofs.messages.Kinds.count.Goals as goal

pub returns-in-Some : goal.returns-in-Some
returns-in-Some c told before =
    rw c.in_ok-row.ensures (counted_again c.args.self.now.rows.items told (as_told c.args.facts.now) before c.in-Some.place c.index_mut-row.result.now (sym c.in-Some.ensures) (sym c.index_mut-row.ensures.value))

pub returns-in-Ok : goal.returns-in-Ok
returns-in-Ok c told before =
    subst (λ rows. AreKindsCounted rows (with_read told c.args.facts.now)) (sym c.in-Ok.ensures.items)
    (counted_first c.args.self.now.rows.items told (as_told c.args.facts.now) before _ (sym c.in_default.ensures) refl refl)
