use Rattle.commands.proofs.files.Files.at.Given as goal

abbrev pub ghost-over : goal.ghost-over
ghost-over g a = g.world'
