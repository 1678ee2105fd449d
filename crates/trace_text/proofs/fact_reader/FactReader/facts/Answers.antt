use Rattle.trace_text.proofs.FactTelling.{tracee_lent, function_lent, facts_are, seen_as}
use Rattle.trace_text.proofs.fact_reader.FactReader.facts.Goals as goal

pub returns-clause-facts : goal.returns-clause-facts
returns-clause-facts c = λ t h.
    facts_are t c.args.kind _ _ _ _ _ h.is_kind c.word_of.ensures
    (tracee_lent (λ own. own.now) c.tracee.result _ (c.tracee.ensures t (seen_as t _ _ _ _ c.deref.ensures.value c.deref-2.ensures.value h.is_seen)))
    (function_lent (λ own. own.now) _ c.then_some.result c.as_slice.result _ _ c.then_some.ensures c.as_slice.ensures.value h.function)
    (tracee_lent (λ own. own.now) c.receiver.result _ (c.receiver.ensures t h.is_kind h.is_seen h.fifth))
    (tracee_lent (λ own. own.now) c.name.result _ (c.name.ensures t h.is_kind h.is_seen h.fifth))
