use Rattle.std.proofs.Common.{rules, refl}
use Rattle.import.proofs.front.shape_in.Goals as goal

pub returns-then-is_bad_message-clause-fault : goal.returns-then-is_bad_message-clause-fault
returns-then-is_bad_message-clause-fault c = λ longest. (refl, search rules)

pub returns-in-Err-BadOp-clause-fault : goal.returns-in-Err-BadOp-clause-fault
returns-in-Err-BadOp-clause-fault c = λ longest. (refl, search rules)

pub returns-in-Err-ZeroDrop-clause-fault : goal.returns-in-Err-ZeroDrop-clause-fault
returns-in-Err-ZeroDrop-clause-fault c = λ longest. (refl, search rules)
