use Rattle.trace_message.proofs.KindLemmas.{some_kind}
use Rattle.trace_message.proofs.laws.some_kind_or_none.Goals as goal

pub returns : goal.returns
returns c = some_kind
