use Rattle.dbgrec.proofs.serve_words.Given as goal

abbrev pub ghost-run : goal.ghost-run
ghost-run g a = g.world'
