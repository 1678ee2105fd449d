use Rattle.dbgrec.proofs.serve.Given as goal

abbrev pub ghost-with_names : goal.ghost-with_names
ghost-with_names g a = g.world'

abbrev pub ghost-serve_prepared : goal.ghost-serve_prepared
ghost-serve_prepared g a = g.world'
