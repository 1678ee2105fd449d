use Rattle.std.proofs.Common.{[], ◌∷◌, ◌++◌, take, length, length-append, ap, sym, ◌∙◌, arith}
use Rattle.std.specs.Str.{bytes_eq}
use Rattle.std.proofs.lemmas.List.{take_at}
use Rattle.trace_text.proofs.Suiting.{text_as_long, text_between}
use Rattle.trace_text.proofs.choice.begins_so.Goals as goal

pub returns-in-Some : goal.returns-in-Some
returns-in-Some c = λ own rest is counted.
    let asked = c.args.asked.now in
    let front = c.in-Some.ensures.cases.1 ∙ ap (take c.args.size) is ∙ take_at own rest c.args.size (omega (arith, counted)) in
    c.eq.ensures ∙ ap (λ l. bytes_eq l asked) front ∙ sym (text_as_long 39 39 asked own (omega (arith, counted)))

pub returns-in-None : goal.returns-in-None
returns-in-None c = λ own rest is counted. absurd (omega (arith, c.in-None.ensures.cases, counted, ap length is, length-append own rest))

pub returns-else-size-asked : goal.returns-else-size-asked
returns-else-size-asked c = λ own rest is counted.
    c.is_quoted.ensures ∙ ap (λ l. bytes_eq l (39 ∷ (c.args.asked.now ++ 39 ∷ []))) (c.front.ensures own rest is counted)
    ∙ sym (text_between 39 39 c.args.asked.now own (λ e. omega (arith, counted, e)))
