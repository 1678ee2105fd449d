use Rattle.shown_listings.proofs.listing.list_last.Given as goal

abbrev pub ghost-new : goal.ghost-new
ghost-new g a = g.W.Write.contents a.out
