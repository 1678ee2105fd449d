use Rattle.prepared_requests.proofs.names.look_up_any.Given as goal

abbrev pub ghost-look_up : goal.ghost-look_up
ghost-look_up g a = g.world'
