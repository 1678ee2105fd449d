use Rattle.dbgrec.proofs.run.Given as goal

abbrev pub ghost-answer : goal.ghost-answer
ghost-answer g a = g.world'
