use Rattle.ext_format.proofs.Again.{whole_again}
use Rattle.ext_format.proofs.laws.spelled_is_read.Goals as goal

pub returns : goal.returns
returns c = whole_again
