use Rattle.std.proofs.lemmas.Result.{on_ok_weaker}
use Rattle.trace_text.proofs.ObjectLines.{end_put}
use Rattle.trace_text.proofs.object.put_end_object.Goals as goal

pub returns : goal.returns
returns c = on_ok_weaker c.put_close.result (end_put c.args.out.now.items _ _ _ _ c.in_ok-push.ensures.items c.in_ok-put_text.ensures) c.put_close.ensures
