use Rattle.commands.proofs.serving.files_to_follow.Given as goal

abbrev pub ghost-files_for : goal.ghost-files_for
ghost-files_for g a = g.world'
