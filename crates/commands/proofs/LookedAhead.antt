-- A look ahead at the files of a trace, and what is shown from an entry on.
use Rattle.std.proofs.Common.{◌≡◌, ◌≤◌, ◌+◌, ℕ, Option, Some, None, List, Result, Ok, Err, inr, refl, sym, subst, ap, ◌∙◌, arith}
use Rattle.trace_store.specs.Disk.{Image}
use Rattle.stores.specs.Events.{IsHonest}
use Rattle.stores.specs.FolderStore.{honest_of, reads_of, clock_of, IsSame, IsClosedAnew}
use Rattle.stores.specs.declared.folder_store.FolderStore.{FolderStore}
use Rattle.recovery.specs.CallCounts.{most_in}
use Rattle.faults.specs.declared.complaint.Complaint.{Complaint}
use Rattle.trace_reader.specs.Observing.{Observations}
use Rattle.import.specs.Incoming.{Outside}
use Rattle.command_line.specs.declared.layout.Layout.{Layout}
use Rattle.command_line.specs.declared.request.Shown.{Shown}
use Rattle.command_line.specs.declared.request.TraceRequest.{TraceRequest}
use Rattle.command_line.specs.declared.request.TraceRequest.TheVariants as requests
use Rattle.trace_text.specs.declared.choice.Choice.{Choice}
use Rattle.shown_listings.specs.Listings.{Listing, ShowsFrom, WasListed}
use Rattle.commands.specs.Files.{OnlyLooks, most_to_tell, most_with}
use Rattle.commands.specs.Live.{most_to_read}
use Rattle.commands.specs.Later.{IsList, IsChoiceFrom, start_asked, IsBegunAt, as_asked, LooksUpTo, LooksAhead}
use Rattle.commands.specs.Serving.{ServesTrace}
use Rattle.commands.specs.declared.files.Files.{Files}
use Rattle.commands.proofs.Readings.{looks_both, looks_same}

-- it was seen how many entries there are
pub ahead-once : (old new : Files) → LooksUpTo most_in old new → LooksAhead old new
ahead-once old new looks = record { place = looks.place; only_reads = looks.only_reads; at_most = λ h. omega (arith, looks.at_most h) }

-- the most device calls of a listing of a trace
abbrev most_listed : Image → ℕ
most_listed image = most_to_read image + most_to_tell image

most-told : (done : Result Unit Complaint) (most : ℕ) (image : Image) → most_with done most image ≤ most + most_to_tell image
most-told (Ok done) most image = omega arith
most-told (Err complaint) most image = omega arith

looked : (request : TraceRequest) (shown : Shown) (old new : Files) (saw : Outside) (observed : Observations) → IsList request → WasListed (ServesTrace request shown old saw new observed) → LooksUpTo most_listed old new
looked (requests.List asked is_pretty) shown old new saw observed list was = record {
  place = was.3.3;
  only_reads = was.3.2.only_reads;
  at_most = λ h. omega (arith, was.3.2.at_most h, most-told was.0 (most_to_read (reads_of old.store)) (reads_of old.store));
}
looked _ shown old new saw observed list was = absurd list

-- and then they were listed, and opened anew
pub ahead-twice : (request : TraceRequest) (shown : Shown) (old mid new anew : Files) (saw : Outside) (observed : Observations) → IsList request → LooksUpTo most_in old mid → WasListed (ServesTrace request shown mid saw new observed)
    → anew.place ≡ new.place → IsSame new.store anew.store → IsClosedAnew new.store anew.store → LooksAhead old anew
ahead-twice request shown old mid new anew saw observed list looks was again same closed =
    let listed = looked request shown mid new saw observed list was in
    record {
      place = again ∙ listed.place ∙ looks.place;
      only_reads = looks_same old.store new.store anew.store (looks_both old.store mid.store new.store (inr looks.only_reads) listed.only_reads) same closed;
      at_most = λ h.
          let after : honest_of new.store = subst IsHonest same.past h in
          let before = listed.only_reads.was_honest after in
          let reads : reads_of mid.store ≡ reads_of old.store = looks.only_reads.same_reads before in
          let made : clock_of new.store ≤ clock_of mid.store + most_listed (reads_of old.store) = subst (λ (image : Image). clock_of new.store ≤ clock_of mid.store + most_listed image) reads (listed.at_most after) in
          subst (λ (n : ℕ). n ≤ clock_of old.store + (most_in (reads_of old.store) + most_listed (reads_of old.store))) (sym same.clock) (omega (arith, looks.at_most before, made));
    }

as-before : (first : ℕ) (choice : Option Choice) (later : Choice) → IsChoiceFrom first choice later → as_asked (Some later) (start_asked choice) ≡ choice
as-before first None later is = refl
as-before first (Some choice) later is = ap (λ (c : Choice). Some (record c { from = choice.from })) is

-- and then what was asked for
pub shown-before : (first : ℕ) (shown later again : Shown) (start : Option (Option ℕ)) → start ≡ start_asked shown.choice → IsBegunAt first shown later → again ≡ record later { choice = as_asked later.choice start } → again ≡ shown
shown-before first shown later again start was begun is =
    is ∙ ap (λ (s : Shown). record s { choice = as_asked s.choice start }) begun.is ∙ ap (λ o. record shown { choice = as_asked (Some begun.choice) o }) was
    ∙ ap (λ c. record shown { choice = c }) (as-before first shown.choice begun.choice begun.from)

-- what was shown was listed
pub was-listed : (first : ℕ) (layout : Option Layout) (Lists : Listing) (told : Option (Result Unit Complaint)) (was now : Option (List ℕ)) → ShowsFrom first layout Lists told was now → WasListed Lists
was-listed first layout Lists None was now shows = shows.1
was-listed first None Lists (Some told) was now shows = (told, was, now, shows)
was-listed first (Some layout) Lists (Some told) was now shows = (shows.1, Some shows.2.held, shows.2.holds, shows.2.lists)
