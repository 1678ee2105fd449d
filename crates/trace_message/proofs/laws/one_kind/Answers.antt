use Rattle.trace_message.proofs.KindLemmas.{one_kind}
use Rattle.trace_message.proofs.laws.one_kind.Goals as goal

pub returns : goal.returns
returns c = one_kind
