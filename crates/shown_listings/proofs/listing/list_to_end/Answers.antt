use Rattle.std.proofs.Common.{◌∙◌, ap, subst, sym}
use Rattle.shown_listings.specs.Listings.{Passes}
use Rattle.shown_listings.proofs.Passing.{passes, passes-kept}
use Rattle.shown_listings.proofs.listing.list_to_end.Goals as goal

pub returns : goal.returns
returns g c =
    let contents = g.W.Write.contents in
    let begun = c.new-lines.result in
    let made = c.new-lines.ensures in
    let call = c.list-done in
    let end = call.new.output in
    let lists = g.S.Listable.lists c.args.listing c.args.shown.now (g.I.Read.remaining c.args.input) call.result.1 call.result.0 in
    let passed : Passes end.is_ended lists (contents c.args.output.now) (contents end.out) =
    passes begun.given end.given (contents c.args.output.now) (contents end.out) end.is_ended lists (made.start ∙ ap contents c.taken.ensures) made.none end.held end.ended call.ensures in
    let out : Passes end.is_ended lists (contents c.args.output.now) (contents c.out_of.result) = subst (λ w. Passes end.is_ended lists (contents c.args.output.now) (contents w)) (sym c.out_of.ensures) passed in (
      end.is_ended,
      call.result.0,
      passes-kept end.is_ended lists (contents c.args.output.now) (contents c.out_of.result) _ out c.told_of-told.ensures.kept,
      c.told_of-told.ensures.told,
    )
