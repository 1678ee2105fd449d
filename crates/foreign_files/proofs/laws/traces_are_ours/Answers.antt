use Rattle.foreign_files.proofs.Tame.{closed_foreign, tame_foreign, open_magic}
use Rattle.foreign_files.proofs.laws.traces_are_ours.Goals as goal

pub returns-clause-open : goal.returns-clause-open
returns-clause-open c = λ text s bytes reads foreign. foreign.no_magic (open_magic text s bytes reads)

pub returns-clause-closed : goal.returns-clause-closed
returns-clause-closed c = closed_foreign

pub returns-clause-tame : goal.returns-clause-tame
returns-clause-tame c = tame_foreign
