use Rattle.dbgrec.proofs.answer.Given as goal

abbrev pub ghost-serve : goal.ghost-serve
ghost-serve g a = g.world'
