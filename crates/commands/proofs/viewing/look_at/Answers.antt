use Rattle.std.proofs.Common.{◌≡◌, Option, None, List, refl, rules, subst, sym}
use Rattle.std.specs.Prelude.{Ok, Err}
use Rattle.segment.proofs.Taking.{reads_both}
use Rattle.entry_codec.specs.Entries.{Entry}
use Rattle.stores.specs.FolderStore.{honest_of, reads_of, images_of, moments_of, clock_of}
use Rattle.trace_lookup.specs.declared.place.Place.{Place}
use Rattle.trace_text.specs.Choosing.{Asks}
use Rattle.trace_text.specs.Chooses.{asks_where}
use Rattle.trace_client.specs.SoFar.{Point, point_with, point_at}
use Rattle.trace_views.specs.Taking.{IsWhyStopped}
use Rattle.trace_views.specs.declared.view.ViewFault.{ViewFault}
use Rattle.trace_views.specs.declared.view_feed.ViewFeed.{ViewFeed}
use Rattle.faults.specs.Faults.{read_fault}
use Rattle.commands.specs.Live.{most_to_read}
use Rattle.commands.specs.Viewing.{HasSeen, TellsStop, refused}
use Rattle.commands.proofs.Bounds.{most_so, tell_after}
use Rattle.commands.proofs.Naming.{told_moved}
use Rattle.commands.proofs.Viewed.{reads_on, stopped, store_seen}
use Rattle.commands.proofs.viewing.look_at.Goals as goal

pub returns-in-None-Ok-clause-viewed : goal.returns-in-None-Ok-clause-viewed
returns-in-None-Ok-clause-viewed g c =
    let F : Type 0 = ViewFeed g.row.V.Denot g.row.H.Denot g.V.View g.H.Host in
    let asks : F → Option Asks = λ f. asks_where f.chosen.chooser.choice in
    let at : F → Point = λ f. point_with f.number f.joiner in
    let seen : F → List Entry = λ f. g.V.View.seen f.chosen.view in
    let failed : F → Option ViewFault = λ f. g.V.View.failed f.chosen.view in
    let a : F = c.new-feed.result in
    let b : F = c.hand_live-reading.new.consumer in
    let e = c.hand_live-reading.ensures in
    let old = c.args.files.now.store in
    let image = reads_of old in
    let done : c.hand_live-reading.result.done ≡ Ok tt = search rules in
    let same : c.into_view-view.result ≡ b.chosen.view = search rules in
    let none : g.V.View.failed c.into_view-view.result ≡ None = search rules in
    let start : at a ≡ point_at 0 = cc in
    record {
      only_reads = e.reads.only_reads;
      at_most = λ h. e.reads.at_most h;
      told = λ h.
          let took = rw done at (e.hands h) in
          let has : HasSeen (asks a) image (seen a) (seen b) = store_seen asks at seen failed image a b start took.0 took.1 in
          let chosen = subst (λ o. HasSeen (asks_where o) image (seen a) (seen b)) c.new-feed.ensures.choice has in
          let before = subst (λ view. HasSeen (asks_where c.args.choice) image (g.V.View.seen view) (seen b)) c.new-feed.ensures.view chosen in
          (subst (λ view. HasSeen (asks_where c.args.choice) image (g.V.View.seen c.args.view) (g.V.View.seen view)) (sym same) before, none);
    }

pub returns-in-Some-default-clause-viewed : goal.returns-in-Some-default-clause-viewed
returns-in-Some-default-clause-viewed g c =
    let failed = g.V.View.failed in
    let fault = c.in-Some-default.fault in
    let view = c.into_view-view.result in
    let why : IsWhyStopped (failed view) fault = search rules in
    let e = c.hand_live-reading.ensures in
    let told = subst (λ (place : Place). TellsStop place.base.now fault c.stopped.result) e.place c.stopped.ensures.told in
    let old = c.args.files.now.store in
    record {
      only_reads = e.reads.only_reads;
      at_most = λ h. most_so {T = g.row.V.Denot} (Err c.stopped.result) (reads_of old) _ _ (most_to_read (reads_of old)) (e.reads.at_most h);
      told = λ h. stopped failed _ _ _ view fault c.stopped.result why told;
    }

pub returns-in-None-Err-clause-viewed : goal.returns-in-None-Err-clause-viewed
returns-in-None-Err-clause-viewed g c =
    let e = c.hand_live-reading.ensures in
    let old = c.args.files.now in
    let mid = c.hand_live-reading.new.files in
    let new = c.told.new.files.store in
    let fault = c.in-None-Err.fault in
    let more = c.told.ensures.only_reads in
    let done : c.hand_live-reading.result.done ≡ Err fault = search rules in
    record {
      only_reads = reads_both honest_of clock_of reads_of images_of moments_of old.store mid.store new e.reads.only_reads more;
      at_most = λ h. tell_after old.store mid.store (clock_of new) (most_to_read (reads_of old.store)) e.reads.only_reads (e.reads.at_most (more.was_honest h)) c.told.ensures.at_most;
      told = λ h.
          let left = rw done at (e.hands (more.was_honest h)) in
          refused fault left.0 (told_moved old.place mid.place new (read_fault fault) (read_fault fault) c.told.result e.place refl c.told.ensures.told);
    }
