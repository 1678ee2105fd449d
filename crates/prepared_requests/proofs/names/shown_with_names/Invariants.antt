use Rattle.prepared_requests.proofs.names.shown_with_names.Given as goal

abbrev pub ghost-look_up_any : goal.ghost-look_up_any
ghost-look_up_any g a = g.world'
