use Rattle.std.proofs.Common.{◌∙◌, sym}
use Rattle.trace_views.proofs.EndsLemmas.{known_already}
use Rattle.trace_views.proofs.ends.Ends.learn.Goals as goal

pub returns-then-has : goal.returns-then-has
returns-then-has c = known_already c.args.self.now c.args.function.now (sym c.has.ensures ∙ c.if-has.true)
