use Rattle.prepared_requests.proofs.names.with_names.Given as goal

abbrev pub ghost-shown_with_names : goal.ghost-shown_with_names
ghost-shown_with_names g a = g.world'
