use Rattle.trace_message.specs.Glances.{glance}
use Rattle.trace_message.proofs.GlanceLemmas.{kind_same}
use Rattle.trace_message.proofs.KindLemmas.{kind_found}
use Rattle.trace_message.proofs.laws.a_glance_tells_the_kind.Goals as goal

pub returns : goal.returns
returns c = λ term seen. kind_found term (glance term).kind (kind_same term) seen
