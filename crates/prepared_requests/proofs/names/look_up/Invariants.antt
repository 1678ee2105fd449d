use Rattle.prepared_requests.proofs.names.look_up.Given as goal

abbrev pub ghost-see_names : goal.ghost-see_names
ghost-see_names g a = g.world'
