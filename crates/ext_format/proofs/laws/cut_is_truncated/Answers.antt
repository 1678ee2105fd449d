use Rattle.ext_format.proofs.Steady.{cut_short}
use Rattle.ext_format.proofs.laws.cut_is_truncated.Goals as goal

pub returns : goal.returns
returns c = cut_short
