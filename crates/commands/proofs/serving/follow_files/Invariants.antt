use Rattle.commands.proofs.serving.follow_files.Given as goal

abbrev pub ghost-files_to_follow : goal.ghost-files_to_follow
ghost-files_to_follow g a = g.world'
