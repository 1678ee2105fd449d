use Rattle.trace_text.specs.AnyReading.{any_term_at}
use Rattle.trace_text.proofs.PartLemmas.{other_put, opened_message}
use Rattle.trace_text.proofs.message.put_message_term.Goals as goal

pub returns-in-Some : goal.returns-in-Some
returns-in-Some c =
    opened_message (any_term_at 256 c.args.rest.now.now) (any_term_at c.in-Some.opened.inner) c.put_message_members.result _ _ _ _ _ (rw c.in-Some.is at c.in_ok-opened.ensures) c.put_message_members.ensures

pub returns-in_ok-put_any_term-in-None : goal.returns-in_ok-put_any_term-in-None
returns-in_ok-put_any_term-in-None c = other_put (any_term_at 256 c.args.rest.now.now) _ _ _ _ c.in_ok-put_any_term-in-None.ensures c.clear.ensures.items (rw c.in-None.is at c.in_ok-opened.ensures)
