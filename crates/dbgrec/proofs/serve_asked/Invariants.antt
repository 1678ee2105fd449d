use Rattle.dbgrec.proofs.serve_asked.Given as goal

abbrev pub ghost-serve_input : goal.ghost-serve_input
ghost-serve_input g a = g.world'

abbrev pub ghost-import_files : goal.ghost-import_files
ghost-import_files g a = g.world'

abbrev pub ghost-serve_files : goal.ghost-serve_files
ghost-serve_files g a = g.world'
