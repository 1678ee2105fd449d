use Rattle.entry_codec.specs.Seen.{lent}
use Rattle.entry_codec.specs.Entries.{Message}
use Rattle.long_messages.specs.Joining.{Long, Part, Single}
use Rattle.trace_text.specs.Chooses.{asks_where}
use Rattle.trace_client.specs.Forms.{as_bytes, no_text}
use Rattle.trace_client.proofs.JoinedSteps.{lone_text}
use Rattle.trace_views.proofs.FeedLemmas.{took_nothing, takes_as}
use Rattle.trace_views.proofs.chosen_view.ChosenView.take_became.Goals as goal

pub returns-in-Held-clause-takes : goal.returns-in-Held-clause-takes
returns-in-Held-clause-takes g c = rw c.in-Held.is (took_nothing _ _ (no_text c.args.number))

pub returns-in-Long-clause-takes : goal.returns-in-Long-clause-takes
returns-in-Long-clause-takes g c =
    rw c.in-Long.is (takes_as c.take.result _ _ _ _ _ (λ text is. lone_text (as_bytes (asks_where c.args.self.now.chooser.choice)) c.args.number (Long c.args.message.now) text is) c.take.ensures.takes)

pub returns-in-Part-clause-takes : goal.returns-in-Part-clause-takes
returns-in-Part-clause-takes g c =
    let f = c.in-Part.part in
    rw c.in-Part.is (takes_as c.take_part.result _ _ _ _ _ (λ text is. lone_text (as_bytes (asks_where c.args.self.now.chooser.choice)) c.args.number (Part f.part f.of f.size (lent c.args.entry)) text is) c.take_part.ensures.takes)

pub returns-in-Single-clause-takes : goal.returns-in-Single-clause-takes
returns-in-Single-clause-takes g c =
    rw c.in-Single.is (takes_as c.take-in-Single.result _ _ _ _ _ (λ text is. lone_text (as_bytes (asks_where c.args.self.now.chooser.choice)) c.args.number (Single (lent c.args.entry)) text is) c.take-in-Single.ensures.takes)
