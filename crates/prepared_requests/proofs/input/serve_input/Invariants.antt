use Rattle.prepared_requests.proofs.input.serve_input.Given as goal

abbrev pub ghost-record_and_serve : goal.ghost-record_and_serve
ghost-record_and_serve g a = g.world'
