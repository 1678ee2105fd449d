use Rattle.std.proofs.Common.{sym, ◌∙◌}
use Rattle.trace_text.proofs.FactTelling.{no_call, no_function, the_function}
use Rattle.trace_text.proofs.fact_reader.put_called_text.Goals as goal

pub returns-then-not-names_function : goal.returns-then-not-names_function
returns-then-not-names_function c = λ t k s. no_call c.args.kind t k (sym c.names_function.ensures ∙ c.if-not-names_function.true)

pub returns-in_default : goal.returns-in_default
returns-in_default c = λ t k s.
    let tells = sym c.names_function.ensures ∙ c.if-not-names_function.false in
    no_function c.args.kind t k tells (rw c.in_default.is at c.function.ensures t s)

pub returns : goal.returns
returns c = λ t k s.
    let tells = sym c.names_function.ensures ∙ c.if-not-names_function.false in
    let f = rw c.in-Some.is at c.function.ensures t s in
    the_function c.args.kind t f.f _ _ k tells f.is (cc) (c.in_ok-put_function_text.ensures f.f f.by)
