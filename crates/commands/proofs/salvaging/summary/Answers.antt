use Rattle.std.proofs.Common.{refl}
use Rattle.commands.proofs.salvaging.summary.Goals as goal

pub returns-clause-told : goal.returns-clause-told
returns-clause-told c = (_, record { files = refl; entries = refl; missing = refl }, refl)
