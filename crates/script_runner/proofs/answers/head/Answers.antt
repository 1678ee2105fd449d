use Rattle.std.proofs.Common.{rules, append_assoc}
use Rattle.script_runner.proofs.Written.{in_calls}
use Rattle.script_runner.proofs.answers.head.Goals as goal

pub returns : goal.returns
returns c = let wrote = in_calls (λ head. head.bytes) c.new-head.result c.write.new.self _ c.in_ok-write.ensures.writes in search (rules, append_assoc)
