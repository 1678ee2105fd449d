use Rattle.std.proofs.Common.{subst, sym}
use Rattle.std.proofs.lemmas.Result.{on_ok_weaker}
use Rattle.trace_text.specs.MessageFacts.{as_told}
use Rattle.trace_views.specs.Counting.{with_read}
use Rattle.trace_views.specs.Rows.{AreNamesTold, AreProcessesCounted}
use Rattle.trace_views.proofs.CountLemmas.{names_told, processes_counted}
use Rattle.trace_views.proofs.processes.Processes.count.Goals as goal

pub returns-clause-rows : goal.returns-clause-rows
returns-clause-rows c told before names =
    let named = subst (λ names. AreNamesTold names told) (sym c.count_own.ensures.names) names in
    let counted = processes_counted c.args.self.now.rows c.count_own.new.self.rows c.count_target.new.self.rows told (as_told c.args.facts.now) c.in_ok-count_own.ensures.rows (c.in_ok-count_target.ensures.rows told named) before in
    on_ok_weaker c.note_name.result (λ _. subst (λ rows. AreProcessesCounted rows (with_read told c.args.facts.now)) (sym c.note_name.ensures.rows) counted) c.note_name.ensures.names

pub returns-clause-names : goal.returns-clause-names
returns-clause-names c told names =
    let named = subst (λ names. AreNamesTold names told) (sym c.count_target.ensures.names) (subst (λ names. AreNamesTold names told) (sym c.count_own.ensures.names) names) in
    on_ok_weaker c.note_name.result (λ sets. names_told c.count_target.new.self.names c.note_name.new.self.names told (as_told c.args.facts.now) sets named) c.note_name.ensures.names
