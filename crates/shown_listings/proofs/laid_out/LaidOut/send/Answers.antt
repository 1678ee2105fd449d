use Rattle.std.proofs.Common.{List, ℕ, ◌∙◌, subst, sym}
use Rattle.shown_listings.specs.Rows.{AreHeld}
use Rattle.shown_listings.proofs.HeldRows.{none_held}
use Rattle.shown_listings.proofs.laid_out.LaidOut.send.Goals as goal

pub invariant_of-self-clause-rows_each : goal.invariant_of-self-clause-rows_each
invariant_of-self-clause-rows_each g c =
    let was = c.args.self.now in
    let P : List (List ℕ) → Type 0 = λ rows. ∥ AreHeld was.most was.since was.look.rule was.lines.items rows ∥₁ in
    subst P (sym c.send_held.ensures.rows) was.rows_each

pub invariant_of-self-clause-sends_none : goal.invariant_of-self-clause-sends_none
invariant_of-self-clause-sends_none g c = none_held c.args.self.now.most c.send_held.new.laid.items (sym c.is_some.ensures ∙ c.if-is_some.false)

pub invariant_of-self-clause-sends : goal.invariant_of-self-clause-sends
invariant_of-self-clause-sends g c = c.send_held.ensures.sends c.args.self.now.sends
