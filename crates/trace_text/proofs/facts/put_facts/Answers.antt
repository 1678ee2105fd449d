use Rattle.std.proofs.lemmas.Result.{on_ok_weaker}
use Rattle.trace_text.proofs.ObjectLines.{joined}
use Rattle.trace_text.proofs.facts.put_facts.Goals as goal

pub returns : goal.returns
returns c = λ t k s. on_ok_weaker c.put_function.result (joined c.args.out.now.items _ _ _ _ (c.in_ok-put_tracee.ensures t s)) (c.put_function.ensures t k s)
