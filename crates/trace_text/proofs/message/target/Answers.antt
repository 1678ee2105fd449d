use Rattle.std.proofs.Common.{◌+◌, ◌%◌, ◌^◌, drop, ap, sym, ◌∙◌, length, length-append, ◌∷◌, ◌++◌, arith}
use Rattle.trace_text.specs.Sights.{is_atom}
use Rattle.trace_text.proofs.PartLemmas.{atoms}
use Rattle.trace_text.proofs.ReceiverLemmas.{few_seen, five_there, not_such, the_fifth}
use Rattle.trace_text.proofs.message.target.Goals as goal

pub returns-in_default : goal.returns-in_default
returns-in_default c = λ t s f. few_seen is_atom t (let e = ap length (c.as_slice.ensures.value ∙ s.members) in omega (arith, e))

pub returns-then-not-is_atom : goal.returns-then-not-is_atom
returns-then-not-is_atom c = λ t s f. not_such t _ (five_there t c.as_slice.result.now _ (c.as_slice.ensures.value ∙ s.members) c.in-len5-up.len_at_least) is_atom (sym c.is_atom.ensures ∙ c.if-not-is_atom.true)

pub returns : goal.returns
returns c = λ t s f.
    let five = five_there t c.as_slice.result.now _ (c.as_slice.ensures.value ∙ s.members) c.in-len5-up.len_at_least in
    let h = five.stands _ _ f in
    let fits = ap length h.5 in
    the_fifth t _ five is_atom atoms c.args.told.now.text.items c.behind-from.result.now c.front.result.now c.args.told.now.place ((c.args.told.now.place + 1) % 2 ^ 64) f (sym c.is_atom.ensures ∙ c.if-not-is_atom.false)
    (omega (arith, h.4, fits, length-append h.0 (44 ∷ (h.1 ++ h.2)), c.deref.type_inv.0, ap length c.deref.ensures.value))
    (c.behind-from.ensures ∙ ap (λ l. drop ((c.args.told.now.place + 1) % 2 ^ 64) l) c.deref.ensures.value) c.front.ensures
