use Rattle.std.proofs.Common.{◌≡◌, ◌++◌, ◌∷◌, [], List, ℕ, Option, codes, sym, subst}
use Rattle.std.specs.Option.{option_map}
use Rattle.std.specs.Prelude.{OnOk}
use Rattle.trace_text.specs.AnyTerm.{Leaf}
use Rattle.trace_text.specs.Objects.{more_text, of_some, of_text}
use Rattle.trace_text.specs.Pretty.{leaf_text}
use Rattle.trace_text.proofs.facts.put_tracee.Goals as goal

pub returns-in-Some : goal.returns-in-Some
returns-in-Some c = λ t s.
    let who = rw c.in-Some.is at c.tracee.ensures t s in
    let put = subst (λ (l : List ℕ). OnOk c.put_pid.result (c.put_pid.new.out.items ≡ c.args.out.now.items ++ more_text (of_text (codes "pid") l ∷ []))) who.text c.put_pid.ensures in
    subst (λ (o : Option Leaf). OnOk c.put_pid.result (c.put_pid.new.out.items ≡ c.args.out.now.items ++ more_text (of_some (codes "pid") (option_map leaf_text o)))) (sym who.is) put
