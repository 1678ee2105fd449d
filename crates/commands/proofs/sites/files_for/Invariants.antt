use Rattle.commands.proofs.sites.files_for.Given as goal

abbrev pub ghost-files_to_write : goal.ghost-files_to_write
ghost-files_to_write g a = g.world'

abbrev pub ghost-files_to_read : goal.ghost-files_to_read
ghost-files_to_read g a = g.world'

abbrev pub ghost-files_to_wipe : goal.ghost-files_to_wipe
ghost-files_to_wipe g a = g.world'
