use Rattle.std.proofs.Common.{◌≡◌, arith, Option, None, sym, subst, ◌∙◌}
use Rattle.std.specs.Prelude.{MatchOption}
use Rattle.trace_text.specs.Facts.{Function}
use Rattle.trace_text.specs.Parts.{IsTheFunction}
use Rattle.trace_text.proofs.FourthLemmas.{begun_so, not_begun, too_few}
use Rattle.trace_text.proofs.PartLemmas.{four_at, four_fit, has_fourth, dropped_four}
use Rattle.trace_text.proofs.message.function.Goals as goal

pub returns-in_default : goal.returns-in_default
returns-in_default c = λ t s. (too_few t c.args.seen.now s.members (omega arith)).0

pub returns-then-not-are_begun : goal.returns-then-not-are_begun
returns-then-not-are_begun c = λ t s. (not_begun t _ s.members _ _ _ _ (four_at c.args.seen.now (c.in-len4-up.len_at_least)) (sym c.are_begun.ensures ∙ c.if-not-are_begun.true)).0

pub returns-in_err-from_module : goal.returns-in_err-from_module
returns-in_err-from_module c = λ t s.
    let there = four_at _ c.in-len4-up.len_at_least in
    let begun = begun_so _ _ _ (sym c.are_begun.ensures ∙ c.if-not-are_begun.false) in
    let h = has_fourth t _ _ s _ _ _ _ _ there begun.0 begun.1 begun.2 in
    absurd (omega (arith, four_fit h, c.in_err-from_module.ensures.cases))

pub returns : goal.returns
returns c = λ t s.
    let there = four_at c.args.seen.now c.in-len4-up.len_at_least in
    let begun = begun_so _ _ _ (sym c.are_begun.ensures ∙ c.if-not-are_begun.false) in
    let h = has_fourth t _ _ s _ _ _ _ _ there begun.0 begun.1 begun.2 in
    let rest = c.in_ok-from_module.ensures.cases.2 ∙ dropped_four h _ (omega (arith, four_fit h)) in
    subst (λ (o : Option Function). MatchOption c.function_of.result (o ≡ None) (λ called. IsTheFunction called o)) (sym h.is) (c.function_of.ensures h.d h.fourth h.rest h.seen h.pretty rest)
