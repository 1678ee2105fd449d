use Rattle.std.proofs.Common.{◌≡◌, [], Option, None, List, map, refl, rules, string_bytes, subst, sym}
use Rattle.std.specs.Prelude.{Ok, Err}
use Rattle.entry_codec.specs.Entries.{Entry}
use Rattle.stores.specs.FolderStore.{reads_of}
use Rattle.trace_text.specs.Choosing.{Asks}
use Rattle.trace_text.specs.Chooses.{asks_where}
use Rattle.trace_client.specs.SoFar.{Point, point_with, point_at}
use Rattle.trace_views.specs.Taking.{in_two_looks}
use Rattle.trace_views.specs.declared.view.ViewFault.{ViewFault}
use Rattle.trace_views.specs.declared.view_feed.ViewFeed.{ViewFeed}
use Rattle.shown_listings.specs.declared.console.Console.{Console}
use Rattle.shown_listings.specs.contracts.console.ConsoleHost.TheImpl as host
use Rattle.prepared_requests.specs.contracts.names_seen.NamesSeenView.TheImpl as view
use Rattle.commands.specs.Viewing.{HasSeen}
use Rattle.commands.proofs.Viewed.{store_seen}
use Rattle.prepared_requests.specs.Names.{as_entries, holding_of}
use Rattle.prepared_requests.specs.declared.names_seen.NamesSeen.{NamesSeen}
use Rattle.prepared_requests.proofs.NamesLooking.{of_view, seen_so}
use Rattle.prepared_requests.proofs.looking.look_at.Goals as goal

pub returns-in-None-Ok-clause-seen : goal.returns-in-None-Ok-clause-seen
returns-in-None-Ok-clause-seen c = λ honest.
    let F : Type 0 = ViewFeed NamesSeen Console view.ghosts host.ghosts in
    let asks : F → Option Asks = λ f. asks_where f.chosen.chooser.choice in
    let at : F → Point = λ f. point_with f.number f.joiner in
    let seen : F → List Entry = λ f. of_view f.chosen.view in
    let failed : F → Option ViewFault = λ f. f.chosen.view.fault in
    let names = map (λ s. string_bytes s) c.args.names.items in
    let image = reads_of c.args.files.now.store in
    let a : F = c.new-feed.result in
    let b : F = c.hand_live-reading.new.consumer in
    let looked = c.into_view-view.result in
    let done : c.hand_live-reading.result.done ≡ Ok tt = search rules in
    let same : looked ≡ b.chosen.view = search rules in
    let none : looked.fault ≡ None = search rules in
    let start : at a ≡ point_at 0 = cc in
    let took = rw done at (c.hand_live-reading.ensures.hands honest) in
    let has : HasSeen (asks a) image (seen a) (seen b) = store_seen asks at seen failed image a b start took.0 took.1 in
    let begun : seen a ≡ in_two_looks (as_entries names) [] = rw (c.new-feed.ensures.view, c.new.ensures.asked, c.new.ensures.taken) refl in
    let chosen : HasSeen None image (seen a) (seen b) = subst (λ o. HasSeen (asks_where o) image (seen a) (seen b)) c.new-feed.ensures.choice has in
    let before : HasSeen None image (in_two_looks (as_entries names) []) (seen b) = subst (λ (l : List Entry). HasSeen None image l (seen b)) begun chosen in
    let all : HasSeen None image (in_two_looks (as_entries names) []) (of_view looked) = subst (λ v. HasSeen None image (in_two_looks (as_entries names) []) (of_view v)) (sym same) before in
    seen_so image names (map (λ s. string_bytes s) looked.asked.items) looked.taken.entries (map holding_of looked.holders.items) all (looked.told none)

pub returns-in-None-Err-clause-seen : goal.returns-in-None-Err-clause-seen
returns-in-None-Err-clause-seen c = λ honest.
    let fault = c.in-None-Err.fault in
    let done : c.hand_live-reading.result.done ≡ Err fault = search rules in
    let left = rw done at (c.hand_live-reading.ensures.hands honest) in
    (fault, left.0)
