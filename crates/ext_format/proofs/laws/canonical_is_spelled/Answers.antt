use Rattle.ext_format.proofs.Spelled.{canonical_spells}
use Rattle.ext_format.proofs.laws.canonical_is_spelled.Goals as goal

pub returns : goal.returns
returns c = canonical_spells
