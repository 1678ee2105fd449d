use Rattle.std.proofs.Common.{◌∙◌, sym}
use Rattle.shown_listings.proofs.EndHolding.{fresh-fed, ended-fed, held-fed}
use Rattle.shown_listings.proofs.end_writer.EndWriter.end.Goals as goal

pub invariant_of-self-clause-fresh : goal.invariant_of-self-clause-fresh
invariant_of-self-clause-fresh g c =
    let was = c.args.self.now in
    fresh-fed was.given c.note.new.self was.is_fresh c.note.ensures was.fresh c.requires.fresh

pub invariant_of-self-clause-ended : goal.invariant_of-self-clause-ended
invariant_of-self-clause-ended g c =
    let was = c.args.self.now in
    ended-fed was.given c.note.new.self was.is_fresh c.note.ensures was.fresh c.requires.fresh (sym was.ended ∙ c.requires.goes_on)

pub invariant_of-self-clause-held : goal.invariant_of-self-clause-held
invariant_of-self-clause-held g c =
    let was = c.args.self.now in
    held-fed was.given c.note.new.self was.is_fresh _ c.note.ensures was.fresh c.requires.fresh (sym was.ended ∙ c.requires.goes_on) was.held
