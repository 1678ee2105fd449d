use Rattle.shown_listings.proofs.end_writer.EndWriter.new.Given as goal

abbrev pub ghost-new : goal.ghost-new
ghost-new g a = g.start
