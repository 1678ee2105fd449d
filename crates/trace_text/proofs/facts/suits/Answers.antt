use Rattle.std.proofs.Common.{ap, sym, Bool, ◌&&◌, ◌∙◌}
use Rattle.std.specs.Prelude.{not}
use Rattle.trace_text.specs.Choosing.{asked_of, is_of_any}
use Rattle.trace_text.proofs.Suiting.{none_named}
use Rattle.trace_text.proofs.facts.suits.Goals as goal

pub returns-then-is_empty : goal.returns-then-is_empty
returns-then-is_empty c = λ t k s.
    let others = asked_of c.args.choice.now.not in
    c.if-is_empty.true ∙ sym (ap (λ (b : Bool). b && not (is_of_any others t)) (sym (c.is_of_each.ensures t k s) ∙ c.if-is_of_each.true)
    ∙ ap not (none_named others t (sym c.is_empty.ensures ∙ c.if-is_empty.true)))
