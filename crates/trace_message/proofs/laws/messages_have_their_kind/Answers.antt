use Rattle.trace_message.proofs.KindLemmas.{message_kind}
use Rattle.trace_message.proofs.laws.messages_have_their_kind.Goals as goal

pub returns : goal.returns
returns c = message_kind
