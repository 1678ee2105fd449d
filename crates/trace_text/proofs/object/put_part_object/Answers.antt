use Rattle.std.proofs.lemmas.Result.{on_ok_weaker}
use Rattle.trace_text.proofs.ObjectLines.{part_put}
use Rattle.trace_text.proofs.object.put_part_object.Goals as goal

pub returns : goal.returns
returns c =
    on_ok_weaker c.put_close.result (part_put c.args.out.now.items _ _ _ _ _ _ _ _ _ _ c.in_ok-put_head.ensures c.in_ok-put_more_number.ensures c.in_ok-put_more_number-2.ensures c.in_ok-put_more_number-3.ensures) c.put_close.ensures
