use Rattle.std.proofs.Common.{◌≡◌, ◌/◌, ◌%◌, List, replicate, sym}
use Rattle.entry_codec.specs.Entries.{Entry, Drop, bytes_of}
use Rattle.trace_client.specs.Gaps.{drop_of, drops_of}
use Rattle.trace_client.proofs.Greatest.{bytes_of-append}
use Rattle.trace_views.proofs.FeedLemmas.{takes_more}
use Rattle.trace_views.proofs.chosen_view.ChosenView.take_drops.Goals as goal

pub returns-clause-takes : goal.returns-clause-takes
returns-clause-takes g c =
    let full : List Entry = replicate (c.args.count / 4294967295) (Drop 4294967295) in
    let rest = drop_of (c.args.count % 4294967295) in
    takes_more c.take_drop.result (λ text. text ≡ bytes_of full) (λ text. text ≡ bytes_of rest) (λ text. text ≡ bytes_of (drops_of c.args.count)) _ _ _ _ (λ text more is own. rw (is, own) (sym (bytes_of-append full rest))) c.in_ok-take_copies.ensures.takes c.take_drop.ensures.takes
