use Rattle.std.proofs.Common.{rules, ap, sym, map, string_bytes, ◌∙◌}
use Rattle.std.specs.List.{list_any}
use Rattle.std.proofs.lemmas.Iterator.{YieldsList-from_slice}
use Rattle.std.proofs.lemmas.Iterator.Search.{any_from_yields_List}
use borrow.Author.Tests.{tests}
use Rattle.trace_text.specs.Choosing.{is_named, is_one_traced}
use Rattle.trace_text.proofs.FactTelling.{seen_as}
use Rattle.trace_text.proofs.Suiting.{list_any-map}
use Rattle.trace_text.proofs.facts.is_any_traced.Goals as goal

pub returns-in-Some : goal.returns-in-Some
returns-in-Some c = λ t s.
    let who = rw c.in-Some.is at c.tracee.ensures t (seen_as t _ _ _ _ c.deref.ensures.value c.deref-2.ensures.value s) in
    let pids = c.args.pids.now in
    any_from_yields_List (λ asked. is_named (string_bytes asked) c.in-Some.who.now) _ _ c.any.result c.any.ensures.ran (YieldsList-from_slice pids c.iter.ensures.rest) (λ x b q k. search (rules, tests))
    ∙ sym (list_any-map (λ asked. is_named asked c.in-Some.who.now) (λ s. string_bytes s) pids)
    ∙ ap (λ own. list_any (λ asked. is_named asked own) (map (λ s. string_bytes s) pids)) who.text ∙ sym (ap (is_one_traced (map (λ s. string_bytes s) pids)) who.is)

pub returns-in-None : goal.returns-in-None
returns-in-None c = λ t s. sym (ap (is_one_traced (map (λ s. string_bytes s) c.args.pids.now)) (rw c.in-None.is at c.tracee.ensures t (seen_as t _ _ _ _ c.deref.ensures.value c.deref-2.ensures.value s)))
