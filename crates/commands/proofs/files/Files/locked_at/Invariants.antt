use Rattle.commands.proofs.files.Files.locked_at.Given as goal

abbrev pub ghost-at : goal.ghost-at
ghost-at g a = g.world'
