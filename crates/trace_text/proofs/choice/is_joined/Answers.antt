use Rattle.trace_text.proofs.Named.{joined_behind, never_joined}
use Rattle.trace_text.proofs.choice.is_joined.Goals as goal

pub returns-in-Some : goal.returns-in-Some
returns-in-Some c = joined_behind c.args.text.now c.args.first.now c.args.second.now c.eq.result c.in-Some.rest.now c.eq.ensures c.in-Some.ensures.cases.0 c.in-Some.ensures.cases.1

pub returns-in-None : goal.returns-in-None
returns-in-None c = never_joined c.args.text.now c.args.first.now c.args.second.now c.in-None.ensures.cases
