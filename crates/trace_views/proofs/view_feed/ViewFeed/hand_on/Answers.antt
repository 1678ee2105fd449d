use Rattle.std.proofs.Common.{refl}
use Rattle.entry_codec.specs.Seen.{lent}
use Rattle.trace_text.specs.Chooses.{asks_where}
use Rattle.trace_client.specs.Forms.{as_bytes}
use Rattle.trace_client.proofs.JoinedSteps.{alone_goes}
use Rattle.trace_views.proofs.FeedLemmas.{takes_as}
use Rattle.trace_views.proofs.view_feed.ViewFeed.hand_on.Goals as goal

pub returns-then-is_alone-clause-takes : goal.returns-then-is_alone-clause-takes
returns-then-is_alone-clause-takes g c =
    let s = c.args.self.now in
    takes_as c.take.result _ _ _ _ _ (λ text is. alone_goes (as_bytes (asks_where s.chosen.chooser.choice)) s.number s.joiner (lent c.args.entry) text (c.is_alone.ensures c.if-is_alone.true) is) c.take.ensures.takes
