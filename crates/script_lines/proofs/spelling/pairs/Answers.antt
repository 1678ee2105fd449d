use Rattle.std.proofs.Common.{arith, refl}
use Rattle.script_lines.proofs.Numbers.{one_more_of, all_spelled}
use Rattle.script_lines.proofs.spelling.pairs.Goals as goal

pub loop-rest-preserved : goal.loop-rest-preserved
loop-rest-preserved c = one_more_of c.args.digits.now c.loop-rest.rest.now c.loop-rest.found.items _ _ _ refl c.loop-rest.invariant (omega arith) c.in-Some.ensures c.in_ok-push-in-Some.ensures.items

pub returns : goal.returns
returns c = all_spelled c.args.digits.now c.loop-rest.rest.now c.loop-rest.found.items c.loop-rest.invariant (omega arith)
