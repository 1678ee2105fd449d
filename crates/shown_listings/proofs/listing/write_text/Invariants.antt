use Rattle.shown_listings.proofs.listing.write_text.Given as goal

abbrev pub ghost-new : goal.ghost-new
ghost-new g a = g.start
