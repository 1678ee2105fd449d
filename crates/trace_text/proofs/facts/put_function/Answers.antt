use Rattle.std.proofs.Common.{◌≡◌, ◌++◌, List, ℕ, Option, codes, ap, append-nil, sym, subst, ◌∙◌}
use Rattle.std.specs.Prelude.{OnOk}
use Rattle.trace_text.specs.Objects.{is_of_call, more_text, of_some}
use Rattle.trace_text.specs.PrettyLines.{kind_word}
use Rattle.trace_text.proofs.ObjectLines.{function_none, function_some}
use Rattle.trace_text.proofs.facts.put_function.Goals as goal

pub returns-in-Some : goal.returns-in-Some
returns-in-Some c = λ t k s.
    let kind_tells = sym c.tells_function.ensures ∙ c.if-not-tells_function.false in
    let f = rw c.in-Some.is at c.function.ensures t s in
    subst (λ (o : Option (List ℕ)). OnOk c.put_called.result (c.put_called.new.out.items ≡ c.args.out.now.items ++ more_text (of_some (codes "mfa") o))) (sym (function_some c.args.kind t f.f kind_tells f.is))
    (c.put_called.ensures f.f f.by)

pub returns-in-None : goal.returns-in-None
returns-in-None c = λ t k s.
    let none = function_none (is_of_call (kind_word c.args.kind)) t (rw c.in-None.is at c.function.ensures t s) in
    sym (ap (λ (o : Option (List ℕ)). c.args.out.now.items ++ more_text (of_some (codes "mfa") o)) none ∙ append-nil c.args.out.now.items)
