-- A trace that is counted.
use Rattle.std.proofs.Common.{◌≡◌, ◌≤◌, ◌+◌, ◌*◌, ◌∙◌, ◌++◌, ◌∷◌, ℕ, Bool, true, false, Option, List, [], Some, None, ap, refl, subst, sym, inl, inr}
use Rattle.std.specs.Prelude.{ℤ, Result, Ok, Err, OnOk, IfErr, IsOk, IsTrue}
use Rattle.std.specs.Io.KnownBytes.{Appends, Keeps}
use Rattle.std.proofs.KnownBytes.{Appends-kept}
use Rattle.command_line.specs.declared.ranking.Ranking.{Ranking}
use Rattle.entry_codec.specs.Entries.{Entry, bytes_of, joined}
use Rattle.trace_store.specs.Disk.{Image}
use Rattle.segment.proofs.Taking.{reads_both}
use Rattle.stores.specs.FolderStore.{honest_of, reads_of, images_of, moments_of, clock_of}
use Rattle.stores.specs.declared.folder_store.FolderStore.{FolderStore}
use Rattle.trace_text.specs.Choosing.{Asks}
use Rattle.trace_client.proofs.ItemLemmas.{window_text}
use Rattle.trace_client.specs.Forms.{as_bytes}
use Rattle.trace_client.specs.SoFar.{Point, point_at}
use Rattle.foreign_files.specs.Standing.{IsStanding}
use Rattle.foreign_files.specs.declared.standing.Standing.TheVariants as standings
use Rattle.trace_views.specs.Acts.{acts_in}
use Rattle.trace_views.specs.Counting.{tellings}
use Rattle.trace_views.specs.Drawings.{ending}
use Rattle.trace_views.specs.Stacks.{AreOrdered, calls_at, calls_of, lines_of}
use Rattle.trace_views.specs.Feeding.{by_feed}
use Rattle.trace_views.specs.Taking.{IsWhyStopped, in_two_looks}
use Rattle.trace_views.proofs.TakenLemmas.{first_look, looks-append, second_look}
use Rattle.trace_views.specs.TableObjects.{WritesTable}
use Rattle.trace_views.specs.Tallies.{IsCounted}
use Rattle.trace_views.specs.declared.stacks.Stacks.{Stacks}
use Rattle.trace_views.specs.declared.tallies.Tallies.{Tallies}
use Rattle.trace_views.specs.declared.view.ViewFault.{ViewFault}
use Rattle.trace_views.specs.declared.view.ViewFault.TheVariants as views
use Rattle.trace_listings.specs.Listings as stores
use Rattle.trace_reader.specs.Handing.{TookStore, blank, holds}
use Rattle.faults.specs.declared.complaint.Complaint.{Complaint}
use Rattle.script_runner.specs.declared.fault.SimFault.{SimFault}
use Rattle.commands.specs.Files.{LooksOver, most_to_tell}
use Rattle.commands.specs.Live.{ReadsTrace, ReadsTwice, most_to_read}
use Rattle.commands.specs.Naming.{IsToldAt}
use Rattle.commands.specs.Telling.{IsOfWriter}
use Rattle.trace_lookup.specs.declared.place.Place.{Place}
use Rattle.commands.proofs.Bounds.{both_of_two, most_of_two, most_so, once_of_two}
use Rattle.commands.specs.Viewing.{AreExported, EndsDrawing, HasSeen, IsFullView, IsNotShown, IsShownBy, IsViewed, ShowsStacks, ShowsTable, TellsStop, no_memory, not_shown, not_written, refused, shown, too_many}

-- what a view was handed of a trace is what an export of it has
pub store_seen : {C : Type 0} (asks : C → Option Asks) (at : C → Point) (seen : C → List Entry) (failed : C → Option ViewFault) (image : Image) (a b : C) → at a ≡ point_at 0 → IsStanding standings.Ours image → TookStore (by_feed asks at seen failed) image a b → HasSeen (asks a) image (seen a) (seen b)
store_seen asks at seen failed image a b start there (blank reads h) =
    (h.took.entries, h.took.all, record { there = there; writes = stores.blank reads (window_text (as_bytes (asks a)) 0 0 0 [] (bytes_of h.took.entries) (at a) (at b) start h.took.is) })
store_seen asks at seen failed image a b start there (holds spec view sealed reads h) =
    (h.took.entries, h.took.all, record { there = there; writes = stores.holds spec view sealed reads (window_text (as_bytes (asks a)) 0 view.first view.lost (joined view.runs) (bytes_of h.took.entries) (at a) (at b) start h.took.is) })

-- what a reading came to, for one that had seen nothing
pub none_before : {V : Type 0} (old new : FolderStore) (asks : Option Asks) (before : List Entry) (seen : V → List Entry) (failed : V → Option ViewFault) (Told : SimFault → Complaint → Type 0) (base : List ℕ) (image : Image) (result : Result V Complaint) → before ≡ []
    → ReadsTrace old new result (IsViewed asks before seen failed Told base image result) → ReadsTrace old new result (IsViewed asks [] seen failed Told base image result)
none_before old new asks before seen failed Told base image result none was = subst (λ (l : List Entry). ReadsTrace old new result (IsViewed asks l seen failed Told base image result)) none was

-- one that had seen nothing has seen all
pub all_seen : (asks : Option Asks) (image : Image) (before seen : List Entry) → before ≡ [] → HasSeen asks image before seen → AreExported asks image seen
all_seen asks image before seen none has = subst (λ (l : List Entry). AreExported asks image l) (sym (has.1 ∙ ap (λ (l : List Entry). l ++ has.0) none)) has.2

-- of files that were found again as they were
pub exported_again : (asks : Option Asks) (before image : Image) (taken : List Entry) → image ≡ before → AreExported asks image taken → AreExported asks before taken
exported_again asks before image taken is are = subst (λ (i : Image). AreExported asks i taken) is are

-- of two looks, each has seen all
pub looks_seen : (asks : Option Asks) (image again : Image) (first before after : List Entry) → again ≡ image → AreExported asks image first → HasSeen asks again (in_two_looks first []) (in_two_looks before after) → AreExported asks image before × AreExported asks image after
looks_seen asks image again first before after same are has =
    let is : in_two_looks before after ≡ in_two_looks first has.0 = has.1 ∙ sym (looks-append first [] has.0) in (
      subst (λ (l : List Entry). AreExported asks image l) (sym (first_look before first after has.0 is)) are,
      subst (λ (l : List Entry). AreExported asks image l) (sym (second_look before first after has.0 is)) (exported_again asks image again has.0 same has.2),
    )

-- a view that hasn't failed gives no fault but that there was no memory
failed_by : (failed : Option ViewFault) → IsWhyStopped failed views.TooMany → failed ≡ Some views.TooMany
failed_by (Some fault) is = ap Some (sym is)
failed_by None is = absurd (cc)

-- what is told where no more is taken
pub stopped : {V : Type 0} (failed : V → Option ViewFault) (Told : SimFault → Complaint → Type 0) (base : List ℕ) (image : Image) (view : V) (fault : ViewFault) (complaint : Complaint) → IsWhyStopped (failed view) fault → TellsStop base fault complaint → IsNotShown (IsFullView failed) Told base image complaint
stopped failed Told base image view views.NoMemory complaint why told = no_memory told
stopped failed Told base image view views.TooMany complaint why told = elim told [
  | inl rows ↦ too_many (view, failed_by (failed view) why) rows
  | inr memory ↦ no_memory memory
]
stopped failed Told base image view views.Write complaint why told = not_written told

-- it is told, where another view may have failed too
pub of_another : {Full All : Type 0} (Told : SimFault → Complaint → Type 0) (base : List ℕ) (image : Image) (complaint : Complaint) → (Full → All) → IsNotShown Full Told base image complaint → IsNotShown All Told base image complaint
of_another Told base image complaint more (refused fault why_not told) = refused fault why_not told
of_another Told base image complaint more (too_many full rows) = too_many (more full) rows
of_another Told base image complaint more (no_memory memory) = no_memory memory
of_another Told base image complaint more (not_written writer) = not_written writer

-- whichever view failed
pub whichever : {Full : Type 0} (Told : SimFault → Complaint → Type 0) (base : List ℕ) (image : Image) (complaint : Complaint) → IsNotShown Full Told base image complaint → IsNotShown Unit Told base image complaint
whichever Told base image complaint why = of_another Told base image complaint (λ full. tt) why

-- the same of files that were found again as they were
pub found_again : {Full : Type 0} (was now : Place) (store : FolderStore) (before image : Image) (complaint : Complaint) → now ≡ was → image ≡ before → IsNotShown Full (IsToldAt now store) now.base.now image complaint → IsNotShown Full (IsToldAt was store) was.base.now before complaint
found_again {Full} was now store before image complaint same is why =
    subst (λ (i : Image). IsNotShown Full (IsToldAt was store) was.base.now i complaint) is (subst (λ (place : Place). IsNotShown Full (IsToldAt place store) place.base.now image complaint) same why)

-- what is told of it tells something else
pub tells_on : {A B : Type 0} (old new : FolderStore) (most : ℕ) → LooksOver old new most A → (A → B) → LooksOver old new most B
tells_on old new most looks more = record { only_reads = looks.only_reads; at_most = looks.at_most; told = λ h. more (looks.told h) }

-- a reading was made, however it ended
pub reads_on : {A B T : Type 0} (old new : FolderStore) (result : Result T Complaint) → LooksOver old new (most_to_read (reads_of old)) A → (A → B) → ReadsTrace old new result B
reads_on old new result looks more = record {
  only_reads = looks.only_reads;
  at_most = λ h. most_so result (reads_of old) (clock_of old) (clock_of new) (most_to_read (reads_of old)) (looks.at_most h);
  told = λ h. more (looks.told h);
}

-- a first reading failed
pub reads_once : {A B : Type 0} (old new : FolderStore) → LooksOver old new (most_to_read (reads_of old) + most_to_tell (reads_of old)) A → (A → B) → LooksOver old new (2 * most_to_read (reads_of old) + most_to_tell (reads_of old)) B
reads_once old new looks more = record {
  only_reads = looks.only_reads;
  at_most = λ h. once_of_two (clock_of old) (clock_of new) (most_to_read (reads_of old)) (most_to_tell (reads_of old)) (looks.at_most h);
  told = λ h. more (looks.told h);
}

-- one that ended well was made, and then another failed
pub reads_again : {A B C : Type 0} (old mid new : FolderStore) → LooksOver old mid (most_to_read (reads_of old)) A → LooksOver mid new (most_to_read (reads_of mid) + most_to_tell (reads_of mid)) B → (reads_of mid ≡ reads_of old → A → B → C)
    → LooksOver old new (2 * most_to_read (reads_of old) + most_to_tell (reads_of old)) C
reads_again old mid new was looks more = record {
  only_reads = reads_both honest_of clock_of reads_of images_of moments_of old mid new was.only_reads looks.only_reads;
  at_most = λ h.
      let behind = looks.only_reads.was_honest h in
      both_of_two (clock_of old) (clock_of mid) (clock_of new) (most_to_read (reads_of old)) (most_to_tell (reads_of old)) (was.at_most behind)
      (subst (λ (image : Image). clock_of new ≤ clock_of mid + (most_to_read image + most_to_tell image)) (was.only_reads.same_reads behind) (looks.at_most h));
  told = λ h. let behind = looks.only_reads.was_honest h in more (was.only_reads.same_reads behind) (was.told behind) (looks.told h);
}

-- both ended well, however that which followed did
pub reads_twice : {A B C U : Type 0} (old mid new : FolderStore) (result : Result U Complaint) → LooksOver old mid (most_to_read (reads_of old)) A → LooksOver mid new (most_to_read (reads_of mid)) B → (reads_of mid ≡ reads_of old → A → B → C) → ReadsTwice old new result C
reads_twice old mid new result was looks more = record {
  only_reads = reads_both honest_of clock_of reads_of images_of moments_of old mid new was.only_reads looks.only_reads;
  at_most = λ h.
      let behind = looks.only_reads.was_honest h in
      most_of_two result (reads_of old) (clock_of old) (clock_of mid) (clock_of new) (most_to_read (reads_of old)) (was.at_most behind)
      (subst (λ (image : Image). clock_of new ≤ clock_of mid + most_to_read image) (was.only_reads.same_reads behind) (looks.at_most h));
  told = λ h. let behind = looks.only_reads.was_honest h in more (was.only_reads.same_reads behind) (was.told behind) (looks.told h);
}

-- what was written of the entries was written out, or it couldn't be
pub shown_so : {E : Type 0} (Shows : List Entry → Type 0) (Full Left : Type 0) (asks : Option Asks) (Told : SimFault → Complaint → Type 0) (base : List ℕ) (image : Image) (entries : List Entry) (written : Result Unit E) (result : Result Unit Complaint) → OnOk written (Shows entries) → OnOk result (IsOk written) → IfErr result IsOfWriter → AreExported asks image entries
    → IsShownBy Shows Full Left asks Told base image result
shown_so Shows Full Left asks Told base image entries (Ok done) (Ok out) shows well unwritten are = shown entries are shows
shown_so Shows Full Left asks Told base image entries (Err fault) (Ok out) shows well unwritten are = absurd (cc)
shown_so Shows Full Left asks Told base image entries written (Err complaint) shows well unwritten are = not_shown complaint (not_written unwritten) (inl unwritten)

-- a table was written, and then written out
pub table_so : {E : Type 0} (ranking : Ranking) (is_json : Bool) (was mid now : Option (List ℕ)) (entries : List Entry) (tallies : Tallies) (written : Result Unit E) → IsCounted tallies (tellings entries) → (IsTrue is_json → OnOk written (WritesTable ranking (tellings entries) was mid)) → Keeps mid now
    → OnOk written (ShowsTable ranking is_json was now entries)
table_so ranking is_json was mid now entries tallies (Ok done) counted told kept = record {
  tallies = tallies;
  counted = counted;
  told = λ json. let wrote = told json in record { text = wrote.text; writes = Appends-kept was mid now _ wrote.writes kept; table = wrote.table; reads = wrote.reads; tells = wrote.tells };
}
table_so ranking is_json was mid now entries tallies (Err fault) counted told kept = tt

-- stacks were
pub stacks_so : {E : Type 0} (asks : Option Asks) (image : Image) (was mid now : Option (List ℕ)) (before entries : List Entry) (counted : Stacks) (written : Result Unit E) → AreExported asks image before → OnOk written ((text : List ℕ) → calls_at counted.rows.rows text ≡ calls_of text (acts_in before) (acts_in entries)) → OnOk written (AreOrdered counted.rows.rows)
    → OnOk written (Appends was mid (lines_of counted.is_timed counted.rows.rows.entries)) → Keeps mid now → OnOk written (ShowsStacks asks image was now entries)
stacks_so asks image was mid now before entries counted (Ok done) looked calls ordered lines kept = record { stacks = counted; before = before; looked = looked; calls = calls; ordered = ordered; lines = Appends-kept was mid now _ lines kept }
stacks_so asks image was mid now before entries counted (Err fault) looked calls ordered lines kept = tt

-- what stands behind events was
pub drawing_so : {E : Type 0} (events mid now : Option (List ℕ)) (first : Option ℤ) (bytes : List ℕ) (written : Result Unit E) → bytes ≡ ending first → OnOk written (Appends events mid bytes) → Keeps mid now → OnOk written (EndsDrawing now)
drawing_so events mid now first bytes (Ok done) same wrote kept = (events, (first, Appends-kept events mid now _ (subst (Appends events mid) same wrote) kept))
drawing_so events mid now first bytes (Err fault) same wrote kept = tt
