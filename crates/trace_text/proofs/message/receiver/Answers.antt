use Rattle.std.proofs.Common.{◌+◌, ◌%◌, ◌^◌, drop, ap, sym, ◌∙◌, length, length-append, ◌∷◌, ◌++◌, arith}
use Rattle.trace_text.specs.Facts.{tells_receiver}
use Rattle.trace_text.proofs.ReceiverLemmas.{five_there, the_process}
use Rattle.trace_text.proofs.message.receiver.Goals as goal

pub returns : goal.returns
returns c = λ t k s f.
    let tells = ap tells_receiver (sym k) ∙ sym c.tells_receiver.ensures ∙ c.if-not-tells_receiver.false in
    let five = five_there t c.as_slice.result.now _ (c.as_slice.ensures.value ∙ s.members) c.in-len5-up.len_at_least in
    let h = five.stands _ _ f in
    let fits = ap length h.5 in
    the_process t _ five tells c.args.told.now.text.items c.behind-rest.result.now c.front.result.now c.args.told.now.place ((c.args.told.now.place + 1) % 2 ^ 64) f (sym c.is_pid.ensures ∙ c.if-not-is_pid.false)
    (omega (arith, h.4, fits, length-append h.0 (44 ∷ (h.1 ++ h.2)), c.deref.type_inv.0, ap length c.deref.ensures.value))
    (c.behind-rest.ensures ∙ ap (λ l. drop ((c.args.told.now.place + 1) % 2 ^ 64) l) c.deref.ensures.value) c.front.ensures
