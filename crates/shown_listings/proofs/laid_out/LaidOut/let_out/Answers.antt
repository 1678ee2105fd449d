use Rattle.std.proofs.Common.{◌++◌}
use Rattle.std.proofs.Math.Logic.{∥∥₁_map}
use Rattle.shown_listings.specs.Rows.{rows_in}
use Rattle.shown_listings.proofs.HeldRows.{let_out}
use Rattle.shown_listings.proofs.laid_out.LaidOut.let_out.Goals as goal

pub invariant_of-self-clause-rows_each : goal.invariant_of-self-clause-rows_each
invariant_of-self-clause-rows_each g c =
    let was = c.args.self.now in
    ∥∥₁_map was.rows_each (let_out was.most was.since was.look.rule was.lines.items (was.laid.items ++ rows_in was.held.items) c.if-self.true (c.has_enough.ensures cc))
