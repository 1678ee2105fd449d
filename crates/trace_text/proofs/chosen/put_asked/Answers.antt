use Rattle.std.proofs.Common.{◌≡◌, List, ℕ, ◌++◌, length, codes, sym, ◌∙◌, arith}
use Rattle.std.specs.Fmt.{decimal}
use Rattle.std.specs.Prelude.{IsTrue}
use Rattle.trace_text.specs.Choosing.{asks_of, suits_if, suits_opaque, term_in}
use Rattle.trace_text.specs.PrettyLines.{IsPrettyTold}
use Rattle.trace_text.proofs.ChosenLines.{numbered}
use Rattle.trace_text.proofs.PrettyTelling.{told_of, unread_told}
use Rattle.trace_text.proofs.Suiting.{asked_read, asked_unread, if_ok_weaker}
use Rattle.trace_text.proofs.chosen.put_asked.Goals as goal

pub returns-in_default-clause-asked : goal.returns-in_default-clause-asked
returns-in_default-clause-asked c =
    if_ok_weaker c.put_unread.result (λ is. is ≡ suits_opaque (asks_of c.args.choice.now)) (λ is. is ≡ suits_if (asks_of c.args.choice.now) (term_in c.args.bytes.now))
    (λ x h. h ∙ asked_unread (asks_of c.args.choice.now) c.args.bytes.now (λ i. omega (arith, c.type_inv.bytes i)) (rw c.in_default.is at c.in_ok-kind.ensures.read)) c.put_unread.ensures.asked

pub returns-in_default-clause-told : goal.returns-in_default-clause-told
returns-in_default-clause-told c =
    if_ok_weaker c.put_unread.result (λ is. IsTrue is → c.put_unread.new.text.items ≡ c.args.text.now.items ++ (decimal c.args.number ++ codes " " ++ (codes "opaque " ++ decimal (length c.args.bytes.now))))
    (λ is. IsTrue is → (told : List ℕ) × IsPrettyTold c.args.bytes.now told × (c.put_unread.new.text.items ≡ c.args.text.now.items ++ (decimal c.args.number ++ codes " " ++ told)))
    (λ x h yes. (codes "opaque " ++ decimal (length c.args.bytes.now), unread_told c.args.bytes.now (rw c.in_default.is at c.in_ok-kind.ensures.read), h yes)) c.put_unread.ensures.told

pub returns-then-not-suits-clause-asked : goal.returns-then-not-suits-clause-asked
returns-then-not-suits-clause-asked c =
    let r = rw c.in-Some.is at c.in_ok-kind.ensures.read in
    sym c.if-not-suits.true ∙ c.suits.ensures r.t r.is_kind r.is_seen ∙ asked_read (asks_of c.args.choice.now) c.in-Some.kind c.args.bytes.now _ _ r

pub returns-clause-asked : goal.returns-clause-asked
returns-clause-asked c =
    let r = rw c.in-Some.is at c.in_ok-kind.ensures.read in
    sym c.if-not-suits.false ∙ c.suits.ensures r.t r.is_kind r.is_seen ∙ asked_read (asks_of c.args.choice.now) c.in-Some.kind c.args.bytes.now _ _ r

pub returns-clause-told : goal.returns-clause-told
returns-clause-told c = λ yes.
    let read = rw c.in-Some.is at c.in_ok-kind.ensures.read in
    let t = told_of c.args.bytes.now c.in-Some.kind _ _ _ _ _ read c.deref.ensures.value c.in_ok-put_kind.ensures in
    (t.0, t.1, numbered c.args.text.now.items _ _ _ t.0 c.args.number c.in_ok-put_number.ensures c.in_ok-push.ensures.items t.2)
