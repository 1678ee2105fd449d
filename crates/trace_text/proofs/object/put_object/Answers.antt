use Rattle.std.proofs.lemmas.Result.{on_ok_weaker}
use Rattle.trace_text.proofs.ObjectLines.{unread_object}
use Rattle.trace_text.proofs.Suiting.{read_as}
use Rattle.trace_text.proofs.object.put_object.Goals as goal

pub returns-in-Some : goal.returns-in-Some
returns-in-Some c =
    let read = rw c.in-Some.is at c.in_ok-kind.ensures.read in
    c.put_message_object.ensures c.args.bytes.now (read_as c.in-Some.kind c.args.bytes.now _ _ _ _ c.deref.ensures.value c.deref-in-Some.ensures.value read)

pub returns-in-None : goal.returns-in-None
returns-in-None c = on_ok_weaker c.put_opaque_object.result (unread_object c.args.number c.args.bytes.now c.args.out.now.items _ (rw c.in-None.is at c.in_ok-kind.ensures.read)) c.put_opaque_object.ensures
