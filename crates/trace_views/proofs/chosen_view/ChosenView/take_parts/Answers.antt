use Rattle.std.proofs.Common.{arith}
use Rattle.trace_text.specs.Chooses.{asks_where}
use Rattle.trace_client.specs.Forms.{no_text}
use Rattle.trace_views.proofs.FeedLemmas.{took_nothing, takes_as, parts_text, no_parts}
use Rattle.trace_views.proofs.chosen_view.ChosenView.take_parts.Goals as goal

pub returns-in-Some-clause-takes : goal.returns-in-Some-clause-takes
returns-in-Some-clause-takes g c =
    rw c.in-Some.is (takes_as c.take_part.result _ _ _ _ _ (λ text is bytes. parts_text (asks_where c.args.self.now.chooser.choice) c.args.first c.in-Some.last bytes text (omega (arith, c.if-last-gt0.true)) is) c.take_part.ensures.takes)

pub returns-in_default-clause-takes : goal.returns-in_default-clause-takes
returns-in_default-clause-takes g c =
    rw c.in-Some.is (took_nothing _ _ (λ bytes. no_parts (asks_where c.args.self.now.chooser.choice) c.args.first c.in-Some.last bytes (λ some. absurd (omega (arith, some, c.if-last-gt0.false)))))

pub returns-in_default-2-clause-takes : goal.returns-in_default-2-clause-takes
returns-in_default-2-clause-takes g c = rw c.in_default.is (took_nothing _ _ (λ bytes. no_text c.args.first))
