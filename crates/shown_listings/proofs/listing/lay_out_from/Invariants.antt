use Rattle.std.specs.Prelude.{Some}
use Rattle.shown_listings.proofs.listing.lay_out_from.Given as goal

abbrev pub ghost-new : goal.ghost-new
ghost-new g a = Some a.out.items

abbrev pub ghost-write_text : goal.ghost-write_text
ghost-write_text g a = g.W.Write.contents a.output.now
