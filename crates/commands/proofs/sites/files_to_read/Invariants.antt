use Rattle.commands.proofs.sites.files_to_read.Given as goal

abbrev pub ghost-at : goal.ghost-at
ghost-at g a = g.world'
