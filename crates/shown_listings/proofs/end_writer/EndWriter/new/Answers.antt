use Rattle.shown_listings.proofs.EndHolding.{fresh-new, ended-new, held-new}
use Rattle.shown_listings.proofs.end_writer.EndWriter.new.Goals as goal

pub invariant_of-result-clause-fresh : goal.invariant_of-result-clause-fresh
invariant_of-result-clause-fresh g c = fresh-new c.new.result c.new.ensures.1

pub invariant_of-result-clause-ended : goal.invariant_of-result-clause-ended
invariant_of-result-clause-ended g c = ended-new c.new.result c.new.ensures.1

pub invariant_of-result-clause-held : goal.invariant_of-result-clause-held
invariant_of-result-clause-held g c = held-new c.new.result g.start _ c.new.ensures c.requires.1
