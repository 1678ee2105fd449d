use Rattle.std.proofs.Common.{nat_eq, ap, sym, ◌∙◌, arith}
use Rattle.trace_text.specs.Choosing.{is_count, is_of_arity}
use Rattle.trace_text.specs.Facts.{arity_told}
use Rattle.std.specs.Fmt.{decimal}
use Rattle.std.specs.Str.{bytes_eq}
use Rattle.trace_text.proofs.PartLemmas.{same_count, integer_asked}
use Rattle.trace_text.proofs.facts.has_arity.Goals as goal

pub returns-in-Counted : goal.returns-in-Counted
returns-in-Counted c = λ f by.
    let told = rw c.in-Counted.is at c.arity.ensures f by in
    ap (λ n. nat_eq n c.in-Some.asked) c.from.ensures ∙ same_count c.in-Counted.count c.in-Some.asked (omega arith) (omega arith) ∙ sym (ap (is_count c.in-Some.asked) told) ∙ sym (ap (λ o. is_of_arity o f.arguments) c.in-Some.is)

pub returns-in-Told : goal.returns-in-Told
returns-in-Told c = λ f by.
    let n = rw c.in-Told.is at c.arity.ensures f by in
    c.is_number.ensures ∙ ap (λ l. bytes_eq l (decimal c.in-Some.asked)) n.2 ∙ integer_asked n.0 c.in-Some.asked (omega arith) ∙ sym (ap (λ t. is_count c.in-Some.asked (arity_told t)) n.1)
    ∙ sym (ap (λ o. is_of_arity o f.arguments) c.in-Some.is)
