use Rattle.std.proofs.Common.{inr}
use Rattle.commands.proofs.salvaging.summary_at_least.Goals as goal

pub returns-in-Err-clause-told : goal.returns-in-Err-clause-told
returns-in-Err-clause-told c = inr c.from.ensures
