use Rattle.prepared_requests.proofs.input.record.Given as goal

abbrev pub ghost-store : goal.ghost-store
ghost-store g a = g.world'

abbrev pub ghost-store-2 : goal.ghost-store-2
ghost-store-2 g a = g.world'
