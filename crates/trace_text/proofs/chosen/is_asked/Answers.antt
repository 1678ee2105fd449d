use Rattle.std.proofs.Common.{sym, ◌∙◌, arith}
use Rattle.trace_text.specs.Choosing.{asks_of}
use Rattle.trace_text.proofs.Suiting.{all_suit, asked_read, asked_unread}
use Rattle.trace_text.proofs.chosen.is_asked.Goals as goal

pub returns-then-has_no_text-clause-asked : goal.returns-then-has_no_text-clause-asked
returns-then-has_no_text-clause-asked c = sym (all_suit (asks_of c.args.choice.now) _ (sym c.has_no_text.ensures ∙ c.if-has_no_text.true))

pub returns-in-Some-clause-asked : goal.returns-in-Some-clause-asked
returns-in-Some-clause-asked c =
    let r = rw c.in-Some.is at c.in_ok-kind.ensures.read in
    c.suits.ensures r.t r.is_kind r.is_seen ∙ asked_read (asks_of c.args.choice.now) c.in-Some.kind c.args.bytes.now _ _ r

pub returns-in-None-clause-asked : goal.returns-in-None-clause-asked
returns-in-None-clause-asked c = c.suits_opaque.ensures ∙ asked_unread (asks_of c.args.choice.now) c.args.bytes.now (λ i. omega (arith, c.type_inv.bytes i)) (rw c.in-None.is at c.in_ok-kind.ensures.read)
