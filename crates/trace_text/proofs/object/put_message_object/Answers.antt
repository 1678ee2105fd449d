use Rattle.std.proofs.Common.{◌≡◌, List, ℕ, ◌++◌, Some, ◌∙◌, sym, subst}
use Rattle.std.proofs.lemmas.Result.{on_ok_weaker}
use Rattle.trace_text.specs.Objects.{more_text, facts_of}
use Rattle.trace_text.proofs.ObjectLines.{message_put, message_object}
use Rattle.trace_text.proofs.object.put_message_object.Goals as goal

pub returns : goal.returns
returns c = λ bytes r.
    let word = c.as_bytes.ensures.value ∙ c.word_of.ensures in
    let facts = subst (λ (w : List ℕ). c.put_facts.new.out.items ≡ c.put_head.new.out.items ++ more_text (facts_of w (Some r.t))) (sym word) (c.in_ok-put_facts.ensures r.t r.is_kind r.is_seen) in
    on_ok_weaker c.put_close.result
    (λ e. message_object c.args.number bytes c.as_bytes.result.now c.args.text.now c.args.out.now.items _ c.args.kind c.args.seen.now r word
    (message_put c.args.out.now.items _ _ _ _ _ _ _ _ c.in_ok-put_head.ensures facts c.in_ok-put_term.ensures e))
    c.put_close.ensures
