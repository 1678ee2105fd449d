use Rattle.std.proofs.Common.{[], ◌∷◌}
use Rattle.foreign_files.proofs.Crashes.{prepare_leaves, open_leaves, gate_leaves, retire_leaves}
use Rattle.foreign_files.proofs.laws.crashes_leave_ours.Goals as goal

pub returns-clause-prepare : goal.returns-clause-prepare
returns-clause-prepare c = prepare_leaves

pub returns-clause-open : goal.returns-clause-open
returns-clause-open c = open_leaves

pub returns-clause-commit : goal.returns-clause-commit
returns-clause-commit c = gate_leaves

pub returns-clause-seal : goal.returns-clause-seal
returns-clause-seal c = λ file now gate. gate_leaves file now gate (0 ∷ 0 ∷ 0 ∷ 0 ∷ [])

pub returns-clause-retire : goal.returns-clause-retire
returns-clause-retire c = retire_leaves
