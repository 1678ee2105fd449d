use Rattle.prepared_requests.proofs.looking.see_names.Given as goal

abbrev pub ghost-at : goal.ghost-at
ghost-at g a = g.world'
