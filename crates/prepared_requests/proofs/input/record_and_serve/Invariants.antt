use Rattle.prepared_requests.proofs.input.record_and_serve.Given as goal

abbrev pub ghost-record : goal.ghost-record
ghost-record g a = g.world'

abbrev pub ghost-serve_recorded : goal.ghost-serve_recorded
ghost-serve_recorded g a = g.world'
