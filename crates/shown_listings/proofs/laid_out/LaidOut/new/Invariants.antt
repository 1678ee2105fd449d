use Rattle.shown_listings.proofs.laid_out.LaidOut.new.Given as goal

abbrev pub ghost-new : goal.ghost-new
ghost-new g a = g.start
