use Rattle.std.proofs.Common.{◌≡◌, ◌++◌, List, ℕ, Option, ap, sym, ◌∙◌, subst}
use Rattle.std.specs.Prelude.{OnOk}
use Rattle.trace_text.specs.Facts.{arity_told}
use Rattle.trace_text.specs.Objects.{arity_text, unsigned_told}
use Rattle.trace_text.proofs.PartLemmas.{integer_told}
use Rattle.trace_text.proofs.fact_reader.put_arity_text.Goals as goal

pub returns-in-Told : goal.returns-in-Told
returns-in-Told c = λ t is.
    let n = rw c.in-Told.is at is in
    let same = ap unsigned_told n.2 ∙ integer_told n.0 ∙ sym (ap arity_told n.1) in
    subst (λ (o : Option (List ℕ)). OnOk c.put_told_text.result (c.put_told_text.new.out.items ≡ c.args.out.now.items ++ arity_text o)) same c.put_told_text.ensures
