use Rattle.commands.proofs.serving.serve_files.Given as goal

abbrev pub ghost-files_for : goal.ghost-files_for
ghost-files_for g a = g.world'
