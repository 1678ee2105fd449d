use Rattle.prepared_requests.proofs.input.serve_recorded.Given as goal

abbrev pub ghost-serve_files : goal.ghost-serve_files
ghost-serve_files g a = g.world'
