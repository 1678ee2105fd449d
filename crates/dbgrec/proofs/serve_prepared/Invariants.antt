use Rattle.dbgrec.proofs.serve_prepared.Given as goal

abbrev pub ghost-follow_files : goal.ghost-follow_files
ghost-follow_files g a = g.world'

abbrev pub ghost-serve_asked : goal.ghost-serve_asked
ghost-serve_asked g a = g.world'

abbrev pub ghost-list_files : goal.ghost-list_files
ghost-list_files g a = g.world'
