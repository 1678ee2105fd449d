use Rattle.std.proofs.Common.{◌≡◌, ◌++◌, ◌∷◌, [], ◌∙◌, ap}
use Rattle.shown_listings.proofs.RowLemmas.{given-grown}
use Rattle.shown_listings.proofs.laid_out.LaidOut.end_line.Goals as goal

pub returns-in-Ok-clause-ok : goal.returns-in-Ok-clause-ok
returns-in-Ok-clause-ok g c =
    let was = c.args.self.now in
    let lines = c.lay.new.self.lines.items in
    let came : lines ≡ was.lines.items ++ (was.line.items ++ c.args.rest.now) ∷ [] = c.in-Ok.ensures.ok ∙ ap (λ l. was.lines.items ++ l ∷ []) c.in_ok-extend_from_slice.ensures.items in
    given-grown was.lines.items lines was.line.items c.args.rest.now c.clear.new.self.items came c.clear.ensures.items
