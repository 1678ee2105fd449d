use Rattle.std.proofs.Common.{◌≡◌, List, ◌++◌, length, sym, ◌∙◌, arith}
use Rattle.std.specs.Prelude.{IsTrue}
use Rattle.entry_codec.specs.Entries.{Message}
use Rattle.trace_text.specs.Choosing.{asks_of, suits_if, suits_opaque, term_in}
use Rattle.trace_text.specs.Objects.{Member, IsObject, object_line, opaque_members}
use Rattle.trace_text.proofs.ObjectLines.{unread_object}
use Rattle.trace_text.proofs.Suiting.{read_as, asked_read, asked_unread, if_ok_weaker}
use Rattle.trace_text.proofs.object.put_asked_object.Goals as goal

pub returns-in_default-clause-asked : goal.returns-in_default-clause-asked
returns-in_default-clause-asked c =
    if_ok_weaker c.put_unread_object.result (λ is. is ≡ suits_opaque (asks_of c.args.choice.now)) (λ is. is ≡ suits_if (asks_of c.args.choice.now) (term_in c.args.bytes.now))
    (λ x h. h ∙ asked_unread (asks_of c.args.choice.now) c.args.bytes.now (λ i. omega (arith, c.type_inv.bytes i)) (rw c.in_default.is at c.in_ok-kind.ensures.read)) c.put_unread_object.ensures.asked

pub returns-in_default-clause-told : goal.returns-in_default-clause-told
returns-in_default-clause-told c =
    if_ok_weaker c.put_unread_object.result (λ is. IsTrue is → c.put_unread_object.new.out.items ≡ c.args.out.now.items ++ object_line (opaque_members c.args.number (length c.args.bytes.now)))
    (λ is. IsTrue is → (members : List Member) × IsObject c.args.number (Message c.args.bytes.now) members × (c.put_unread_object.new.out.items ≡ c.args.out.now.items ++ object_line members))
    (λ x h yes. unread_object c.args.number c.args.bytes.now c.args.out.now.items _ (rw c.in_default.is at c.in_ok-kind.ensures.read) (h yes)) c.put_unread_object.ensures.told

pub returns-then-not-suits-clause-asked : goal.returns-then-not-suits-clause-asked
returns-then-not-suits-clause-asked c =
    let r = rw c.in-Some.is at c.in_ok-kind.ensures.read in
    sym c.if-not-suits.true ∙ c.suits.ensures r.t r.is_kind r.is_seen ∙ asked_read (asks_of c.args.choice.now) c.in-Some.kind c.args.bytes.now _ _ r

pub returns-clause-asked : goal.returns-clause-asked
returns-clause-asked c =
    let r = rw c.in-Some.is at c.in_ok-kind.ensures.read in
    sym c.if-not-suits.false ∙ c.suits.ensures r.t r.is_kind r.is_seen ∙ asked_read (asks_of c.args.choice.now) c.in-Some.kind c.args.bytes.now _ _ r

pub returns-clause-told : goal.returns-clause-told
returns-clause-told c = λ yes.
    let read = rw c.in-Some.is at c.in_ok-kind.ensures.read in
    c.in_ok-put_message_object.ensures c.args.bytes.now (read_as c.in-Some.kind c.args.bytes.now _ _ _ _ c.deref.ensures.value c.deref-2.ensures.value read)
