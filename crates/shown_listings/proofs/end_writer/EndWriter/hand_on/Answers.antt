use Rattle.std.proofs.Common.{◌∙◌, sym, subst, take}
use Rattle.std.specs.Io.KnownBytes.{Appends}
use Rattle.shown_listings.proofs.Ending.{none-front, before_none}
use Rattle.shown_listings.proofs.EndHolding.{fresh-grown, ended-grown, held-grown}
use Rattle.shown_listings.proofs.end_writer.EndWriter.hand_on.Goals as goal

pub invariant_of-self-2-clause-fresh : goal.invariant_of-self-2-clause-fresh
invariant_of-self-2-clause-fresh g c =
    let was = c.args.self.now in
    fresh-grown was.given c.note.new.self _ was.is_fresh c.is_fresh_after-self.result c.note.ensures was.fresh c.is_fresh_after-self.ensures

pub invariant_of-self-2-clause-ended : goal.invariant_of-self-2-clause-ended
invariant_of-self-2-clause-ended g c =
    let was = c.args.self.now in
    let none = none-front was.is_fresh c.in_ok-count.count c.args.bytes.now c.requires.none in
    ended-grown was.given c.note.new.self (take c.in_ok-count.count c.args.bytes.now) was.is_fresh was.is_ended c.note.ensures was.fresh (sym was.ended ∙ c.requires.goes_on) (c.requires.goes_on ∙ sym none)

pub invariant_of-self-2-clause-held : goal.invariant_of-self-2-clause-held
invariant_of-self-2-clause-held g c =
    let was = c.args.self.now in
    let taken = take c.in_ok-count.count c.args.bytes.now in
    let none = none-front was.is_fresh c.in_ok-count.count c.args.bytes.now c.requires.none in
    held-grown was.given c.note.new.self taken was.is_fresh _ _ c.note.ensures was.fresh (sym was.ended ∙ c.requires.goes_on) was.held
    (subst (Appends (g.W.Write.contents was.out) (g.W.Write.contents c.write.new.self)) (sym (before_none was.is_fresh taken none)) c.in_ok-count.ensures.bytes)
