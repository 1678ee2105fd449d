use Rattle.commands.proofs.sites.files_to_wipe.Given as goal

abbrev pub ghost-locked_at : goal.ghost-locked_at
ghost-locked_at g a = g.world'
