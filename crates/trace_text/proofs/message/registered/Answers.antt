use Rattle.std.proofs.Common.{arith, sym, ap, ◌∙◌}
use Rattle.trace_text.specs.Sights.{is_atom}
use Rattle.trace_text.proofs.FourthLemmas.{begun_so, leaf_none, not_begun, too_few}
use Rattle.trace_text.proofs.PartLemmas.{atoms, four_at, four_fit, has_fourth, dropped_to_four, leaf_by}
use Rattle.trace_text.proofs.message.registered.Goals as goal

pub returns-in_default : goal.returns-in_default
returns-in_default c = λ t s. (too_few t c.args.seen.now s.members (omega arith)).1

pub returns-then-not-are_begun : goal.returns-then-not-are_begun
returns-then-not-are_begun c = λ t s. (not_begun t _ s.members _ _ _ _ (four_at c.args.seen.now c.in-len4-up.len_at_least) (sym c.are_begun.ensures ∙ c.if-not-are_begun.true)).1

pub returns-then-not-is_atom : goal.returns-then-not-is_atom
returns-then-not-is_atom c = λ t s.
    let there = four_at c.args.seen.now c.in-len4-up.len_at_least in
    let begun = begun_so _ _ _ (sym c.are_begun.ensures ∙ c.if-not-are_begun.false) in
    let h = has_fourth t _ _ s _ _ _ _ _ there begun.0 begun.1 begun.2 in
    h.named ∙ leaf_none is_atom h.d (ap (λ g. is_atom g.sort) (sym h.seen) ∙ sym c.is_atom.ensures ∙ c.if-not-is_atom.true)

pub returns : goal.returns
returns c = λ t s.
    let there = four_at c.args.seen.now c.in-len4-up.len_at_least in
    let begun = begun_so _ _ _ (sym c.are_begun.ensures ∙ c.if-not-are_begun.false) in
    let h = has_fourth t _ _ s _ _ _ _ _ there begun.0 begun.1 begun.2 in
    let o = leaf_by is_atom atoms h.d h.fourth (ap (λ g. is_atom g.sort) (sym h.seen) ∙ sym c.is_atom.ensures ∙ c.if-not-is_atom.false) h.pretty in
    let rest = c.behind.ensures ∙ dropped_to_four h _ (omega (arith, four_fit h)) in
    record { l = o.0.l; is = h.named ∙ o.1; text = c.front.ensures h.fourth h.rest rest (ap (λ g. g.sizes.first) h.seen ∙ o.0.size) ∙ o.0.text }
