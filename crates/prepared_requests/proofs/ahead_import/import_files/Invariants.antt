use Rattle.prepared_requests.proofs.ahead_import.import_files.Given as goal

abbrev pub ghost-files_for : goal.ghost-files_for
ghost-files_for g a = g.world'
