-- What a command does with the files of a trace.
use Rattle.std.specs.Prelude.{◌≡◌, ◌≢◌, ◌⊎◌, ◌+◌, ◌*◌, ℕ, length, Bool, true, false, Option, None, List, [], Result, Ok, Err, OnOk, IsErr, IfSome, IfErr}
use Rattle.std.specs.Option.{option_map}
use Rattle.std.specs.Io.KnownBytes.{Appends, Keeps}
use Rattle.trace_store.specs.Disk.{Image}
use Rattle.trace_store.specs.Moments.{Rose, LeavesOnly}
use Rattle.stores.specs.Events.{World}
use Rattle.stores.specs.FolderStore.{past_of, honest_of, reads_of, images_of, moments_of, clock_of, failures_of, locked_of}
use Rattle.stores.specs.declared.folder_store.FolderStore.{FolderStore}
use Rattle.stores.specs.contracts.folder_store.FolderStoreStore.TheImpl as folder
use Rattle.segment.specs.Specification.{Spec}
use Rattle.recovery.specs.Stores.{readings, IsBlank}
use Rattle.trace_store.specs.Device.{Device, device_of}
use Rattle.trace_client.specs.Forms.{Form, as_lines, as_bytes}
use Rattle.trace_client.specs.Output.{AppendsPrefix}
use Rattle.trace_client.specs.declared.fault.StreamFault.{StreamFault}
use Rattle.trace_text.specs.declared.style.Style.{Style}
use Rattle.trace_text.specs.declared.style.Wording.{Wording}
use Rattle.trace_text.specs.declared.style.Wording.TheVariants.{Plain, Pretty}
use Rattle.trace_text.specs.declared.style.Notation.{Notation}
use Rattle.trace_text.specs.declared.style.Notation.TheVariants.{Text, Json}
use Rattle.command_line.specs.declared.request.Shown.{Shown}
use Rattle.trace_text.specs.Choosing.{Asks, asks_of}
use Rattle.trace_text.specs.Lines.{asks_in}
use Rattle.foreign_files.specs.Clearing.{AreCleared, IsClearing, HasNoForeign}
use Rattle.foreign_files.specs.Standing.{IsStanding}
use Rattle.foreign_files.specs.declared.standing.Standing.TheVariants as standings
use Rattle.trace_listings.specs.Listings.{WritesStore}
use Rattle.trace_reader.specs.Observing.{Observations}
use Rattle.trace_reader.specs.Reading.{IsWhyNotRead}
use Rattle.trace_listings.specs.Windows.{IsWrittenInTurn}
use Rattle.trace_listings.specs.Streamed.{StopsBy}
use Rattle.trace_client.specs.declared.stream.StreamStyle.{StreamStyle}
use Rattle.trace_reader.specs.Wiping.{HasForeign, IsWhyNotWiped, IsNotToWipe}
use Rattle.trace_reader.specs.declared.fault.ReadFault.{ReadFault}
use Rattle.trace_reader.specs.declared.fault.WipeFault.{WipeFault}
use Rattle.trace_reader.specs.declared.fault.WipeFault.TheVariants as wiping
use Rattle.trace_reader.specs.declared.wiping.Clearing.{Clearing}
use Rattle.trace_reader.specs.declared.wiping.Clearing.TheVariants.{Own, Any}
use Rattle.command_line.specs.declared.request.Rules.{Rules}
use Rattle.command_line.specs.declared.request.Form.{Form as Written}
use Rattle.command_line.specs.declared.request.Form.TheVariants as written
use Rattle.command_line.specs.declared.request.TraceRequest.{TraceRequest}
use Rattle.command_line.specs.declared.request.TraceRequest.TheVariants as requests
use Rattle.faults.specs.Complaints.{status_told, IsToldAs}
use Rattle.faults.specs.Kept.{kept_told, fault_past}
use Rattle.script_runner.specs.Faults.{run_fault, IsFaultOfDevice}
use Rattle.faults.specs.Faults.{read_fault, wipe_fault}
use Rattle.commands.specs.Telling.{IsOfMemory, IsOfWriter}
use Rattle.commands.specs.Naming.{IsToldAt}
use Rattle.commands.specs.Informing.{most_to_inform, IsInfo}
use Rattle.commands.specs.Viewing.{IsDrawn, IsFold, IsTop}
use Rattle.commands.specs.Salvaging.{most_to_salvage, IsSalvage}
use Rattle.commands.specs.Live.{ReadsTrace, ReadsTwice}
use Rattle.commands.specs.Files.{most_to_tell, CallsToOpen, CallsToClear, CallsToTryClearing, CallsToLook, CallsToEnd, OnlyLooks, LooksWell, LooksBehind, LooksOver, MayFail, WasRecorded, IsKeptOf}
use Rattle.commands.specs.Importing.{import_fault, IsNoStream, WasFed}
use Rattle.import.specs.Incoming.{Outside, outside}
use Rattle.import.specs.Beginning.{Begins, EndsWithin, IsUnread}
use Rattle.import.specs.declared.incoming.Incoming.{Incoming}
use Rattle.import.specs.declared.fault.ImportFault.{ImportFault}
use Rattle.trace_port.specs.Limits.{greatest_limit}
use Rattle.script_runner.specs.PortOpenings.{first_told, FitsStore, GoesOnOrBegins}
use Rattle.commands.specs.Openings.{wanted, TellsFault, KeepsTrace, IsWhyNotOpened}
use Rattle.trace_lookup.specs.Places.{file_count, run_end_of}
use Rattle.trace_lookup.specs.declared.place.Place.{Place}
use Rattle.script_runner.specs.Texts.{line_of}
use Rattle.script_runner.specs.declared.answer.Answer.TheVariants.{Done}
use Rattle.faults.specs.declared.complaint.Advice.{Advice}
use Rattle.faults.specs.declared.complaint.Complaint.{Complaint}
use Rattle.faults.specs.declared.complaint.Complaint.TheVariants as complaints
use Rattle.script_runner.specs.declared.fault.SimFault.{SimFault}
use Rattle.script_runner.specs.declared.fault.SimFault.TheVariants as faults
use Rattle.commands.specs.declared.files.Files.{Files}
use Rattle.script_runner.specs.declared.opening.AnyOpening.{AnyOpening}
use Rattle.script_runner.specs.declared.reply.Origin.{Origin}

-- the files of a trace as a device
abbrev pub device : FolderStore → Device
device store = device_of folder.ghosts store

-- how a call on an input ended is told, so many bytes of which were passed over first
abbrev pub IsExplained : (SimFault → Complaint → Type 0) → ℕ → Result Unit SimFault → Result Unit Complaint → Type 0
IsExplained Told skip (Ok done) result = result ≡ Ok tt
IsExplained Told skip (Err fault) (Ok done) = ⊥
IsExplained Told skip (Err fault) (Err complaint) = Told (fault_past skip fault) complaint

-- how a reading of a trace ended, and what was written is written out: it was written whole; or so much of it as stands before a fault, or as could be written out
pub data IsRead (form : Form) (Told : SimFault → Complaint → Type 0) (image : Image) (was now : Option (List ℕ)) : Result Unit Complaint → Type 0 where
  whole : (text : List ℕ) (mid : Option (List ℕ)) → IsStanding standings.Ours image → WritesStore form image text → Appends was mid text → Keeps mid now → IsRead form Told image was now (Ok tt)
  not_written_out : (text : List ℕ) (mid : Option (List ℕ)) (complaint : Complaint) → IsStanding standings.Ours image → WritesStore form image text → Appends was mid text → Keeps mid now → IsOfWriter complaint → IsRead form Told image was now (Err complaint)
  refused : (fault : ReadFault) (entries : ℕ) (mid : Option (List ℕ)) (complaint : Complaint) → IsWhyNotRead fault image → IsWrittenInTurn form fault image was mid entries → Keeps mid now → Told (read_fault fault) complaint → IsRead form Told image was now (Err complaint)

-- a trace was cleared for good: whatever a crash leaves of it is blank
pub record IsCleared (clearing : Clearing) (old new : FolderStore) : Type 0 where
  pub is_due : IsNotToWipe clearing (reads_of old) → ⊥
  pub files : AreCleared (reads_of old) (reads_of new)
  pub closed : (c : Image) → images_of new c → IsBlank (readings c)
  pub none_foreign : (c : Image) → images_of new c → HasNoForeign c
  pub at_most : CallsToClear old new

-- what is told of a mark that stays: its file, or that there was no memory for that
abbrev pub IsOfMark : Complaint → Type 0
IsOfMark (complaints.Mark name reason) = Unit {0}
IsOfMark complaint = IsOfMemory complaint

-- how a clearing ended: it is said to be done where it is; or it is done, and that couldn't be told whole or the mark of a failed sync stays; or it isn't done
pub data Clears (clearing : Clearing) (place : Place) (old new : FolderStore) (was now : Option (List ℕ)) : Result Unit Complaint → Type 0 where
  done : IsCleared clearing old new → Appends was now (line_of Done) → Clears clearing place old new was now (Ok tt)
  not_told : (complaint : Complaint) → IsCleared clearing old new → AppendsPrefix was now (line_of Done) → IsOfWriter complaint ⊎ IsOfMark complaint → Clears clearing place old new was now (Err complaint)
  refused : (fault : WipeFault) (complaint : Complaint) → IsWhyNotWiped clearing fault (reads_of old) → (fault ≢ wiping.Device → CallsToLook old new) → CallsToTryClearing old new → Appends was now [] → IsToldAt place new (wipe_fault fault) complaint → Clears clearing place old new was now (Err complaint)

-- a port was opened for a trace of this kind, of a store that was honest where it is, and no device call failed
pub record IsOpened (spec : Spec) (old new : FolderStore) (opened : AnyOpening) (origin : Origin) : Type 0 where
  pub suits : FitsStore folder.ghosts opened new
  pub opens : honest_of new → GoesOnOrBegins (reads_of old) (first_told opened (device new)) spec greatest_limit origin
  pub ours : honest_of new → HasNoForeign (reads_of old)
  pub moments : honest_of new → KeepsTrace (device old) (device new) spec
  pub was_honest : honest_of new → honest_of old
  pub no_failure : failures_of new ≡ failures_of old
  pub at_most : CallsToOpen old new

-- none was
pub record IsNotOpened (spec : Spec) (old new : FolderStore) (fault : SimFault) : Type 0 where
  pub why : honest_of new → IsWhyNotOpened spec fault (reads_of old)
  pub failed : IsFaultOfDevice fault → Rose (failures_of old) (failures_of new)
  pub untouched : honest_of new → HasForeign (reads_of old) → OnlyLooks old new
  pub moments : honest_of new → KeepsTrace (device old) (device new) spec
  pub was_honest : honest_of new → honest_of old
  pub at_most : CallsToOpen old new

-- a trace was opened and the lines of a script, which had these bytes, were run at its port; or nothing was done but the opening, or not even that
pub data Records (place : Place) (spec : Spec) (old new : FolderStore) (had was now : Option (List ℕ)) : Result Unit Complaint → Type 0 where
  runs : {mid : FolderStore} {opened : AnyOpening} {origin : Origin} {result : Result Unit Complaint} {has : Option (List ℕ)} (done : Result Unit SimFault) → IsOpened spec old mid opened origin → WasRecorded opened origin mid new had has done was now → IsToldAs done result
      → Records place spec old new had was now result
  not_opened : {mid : FolderStore} (fault : SimFault) (complaint : Complaint) → IsNotOpened spec old mid fault → LooksBehind fault mid new → Keeps was now → IsToldAt place new fault complaint → Records place spec old new had was now (Err complaint)
  no_memory : (complaint : Complaint) → new ≡ old → Keeps was now → IsOfMemory complaint → Records place spec old new had was now (Err complaint)

-- what an import did, by what was seen before it and what was observed until its end
pub data Feeds (place : Place) (spec : Spec) (rules : Rules) (old new : FolderStore) (saw : Outside) (observed : Observations) (was now : Option (List ℕ)) : Result Unit Complaint → Type 0 where
  -- a byte came; then a trace was opened, and the stream put into its port
  feeds : {first mid last : FolderStore} {opened : AnyOpening} {origin : Origin} {result : Result Unit Complaint} {then : Outside} {incoming : Incoming} (begins : Begins rules.skip rules.longest saw then incoming)
      (remaining : Option (List ℕ)) (reads : ℕ) (come : List ℕ) (left : Incoming) (done : Result Unit SimFault) → LooksWell old first → IsOpened spec first mid opened origin
      → WasFed opened origin rules mid last begins.mid (outside remaining reads observed) come left done (λ text. Appends was now text) → OnlyLooks last new → MayFail (failures_of last) (failures_of new) → CallsToEnd last new → OnOk done (new ≡ last) → IsExplained (IsToldAt place last) rules.skip done result
      -- where it is told how much of the stream is kept, so much is
      → (honest_of new → IfErr result (λ complaint. IfSome (kept_told complaint) (IsKeptOf (first_told opened (device mid)) rules.longest rules.skip come (reads_of new)))) → Feeds place spec rules old new saw observed was now result
  -- a byte came; then the trace wasn't opened
  not_opened : {first mid : FolderStore} {then : Outside} {incoming : Incoming} (fault : SimFault) (complaint : Complaint) → Begins rules.skip rules.longest saw then incoming → LooksWell old first → (honest_of first → HasNoForeign (reads_of old)) → IsNotOpened spec first mid fault
      → LooksBehind fault mid new → observed ≡ then.observed → Keeps was now → IsToldAt place new fault complaint → Feeds place spec rules old new saw observed was now (Err complaint)
  -- no byte came
  nothing_came : {then : Outside} → EndsWithin rules.skip saw then → LooksOver old new (2 * length (reads_of old)) (HasNoForeign (reads_of old)) → observed ≡ then.observed → Keeps was now → Feeds place spec rules old new saw observed was now (Ok tt)
  -- what came first begins with no entry, and no trace was there: none is made
  no_stream : {then : Outside} {incoming : Incoming} (complaint : Complaint) (begins : Begins rules.skip rules.longest saw then incoming) → IsNoStream rules.skip rules.longest 0 begins.chunk complaint
      → LooksOver old new (2 * length (reads_of old)) (IsStanding standings.Absent (reads_of old)) → observed ≡ then.observed → Keeps was now → Feeds place spec rules old new saw observed was now (Err complaint)
  -- the first byte couldn't be had
  failure : {then : Outside} (fault : ImportFault) (complaint : Complaint) → IsUnread rules.skip saw then fault → LooksOver old new (2 * length (reads_of old) + most_to_tell (reads_of old)) (HasNoForeign (reads_of old)) → observed ≡ then.observed → Keeps was now → IsToldAt place new (import_fault fault) complaint
      → Feeds place spec rules old new saw observed was now (Err complaint)
  -- its files aren't a trace's, or that can't be known, and nothing was read
  refused : {first : FolderStore} (fault : SimFault) (complaint : Complaint) → (honest_of new → IsWhyNotOpened spec fault (reads_of old)) → OnlyLooks old first → CallsToLook old first → TellsFault (failures_of old) (failures_of first) fault → LooksBehind fault first new → observed ≡ saw.observed → Keeps was now → IsToldAt place new fault complaint
      → Feeds place spec rules old new saw observed was now (Err complaint)

-- whether files that aren't of a trace are cleared, too
abbrev pub clearing_of : Bool → Clearing
clearing_of false = Own
clearing_of true = Any

-- how messages are told
abbrev pub wording_of : Bool → Wording
wording_of false = Plain
wording_of true = Pretty

-- what stands for each entry
abbrev pub notation_of : Bool → Notation
notation_of false = Text
notation_of true = Json

-- which entries are asked for
abbrev pub asks_shown : Shown → Option Asks
asks_shown shown = option_map asks_of shown.choice

-- a style in which messages are told so, and the entries are listed that are shown, by lines or by objects
pub record IsStyleOf (is_pretty : Bool) (shown : Shown) (style : Style) : Type 0 where
  pub wording : style.wording ≡ wording_of is_pretty
  pub notation : style.notation ≡ notation_of shown.is_json
  pub asks : asks_in style ≡ asks_shown shown

-- how entries are written
abbrev pub IsWrittenAs : Written → Shown → Form → Type 0
IsWrittenAs (written.Lines is_pretty) shown form = (style : Style) × IsStyleOf is_pretty shown style × (form ≡ as_lines style)
IsWrittenAs written.Stream shown form = form ≡ as_bytes (asks_shown shown)

-- why the listing of a stream came to no end, and what is written then: by a fault, which is told, and the lines before it; or there was no room to read it, and nothing is written
pub data EndsStream (style : StreamStyle) (had old new : Option (List ℕ)) (complaint : Complaint) : Type 0 where
  stopped : (fault : StreamFault) (left : Option (List ℕ)) (advice : Option Advice) → StopsBy style had left old new fault → complaint ≡ complaints.Fault (run_fault fault) advice → EndsStream style had old new complaint
  no_room : Keeps old new → complaint ≡ complaints.Fault faults.NoMemory None → EndsStream style had old new complaint

-- what is asked changes the trace
abbrev pub Changes : TraceRequest → Type 0
Changes (requests.List asked is_pretty) = ⊥
Changes (requests.Export asked) = ⊥
Changes (requests.Fold asked) = ⊥
Changes (requests.Draw asked) = ⊥
Changes (requests.Salvage asked form) = ⊥
Changes (requests.Info asked is_json) = ⊥
Changes (requests.Top asked ranking is_json) = ⊥
Changes _ = Unit {0}

-- what is done with a trace for what the command line asks and how it is to be shown, by what is seen of the stream that comes in, what is observed until the end, and the bytes that are written
abbrev pub Serves : TraceRequest → Shown → Files → Files → Outside → Observations → Option (List ℕ) → Option (List ℕ) → Result Unit Complaint → Type 0
Serves (requests.List asked is_pretty) shown old new saw observed was now result = (style : Style) × IsStyleOf is_pretty shown style
    × ReadsTrace old.store new.store result (IsRead (as_lines style) (IsToldAt old.place new.store) (reads_of old.store) was now result) × (new.place ≡ old.place)
Serves (requests.Export asked) shown old new saw observed was now result = ReadsTrace old.store new.store result (IsRead (as_bytes (asks_shown shown)) (IsToldAt old.place new.store) (reads_of old.store) was now result)
Serves (requests.Salvage asked form) shown old new saw observed was now result = (out : Form) × IsWrittenAs form shown out
    × LooksOver old.store new.store (most_to_salvage (reads_of old.store)) (IfErr result (IsSalvage out (IsToldAt old.place new.store) (Rose (failures_of old.store) (failures_of new.store)) (reads_of old.store) was now)) × IsErr result × IfErr result (λ complaint. status_told complaint ≡ 1)
Serves (requests.Info asked is_json) shown old new saw observed was now result = LooksOver old.store new.store (most_to_inform result (reads_of old.store)) (IsInfo (IsToldAt old.place new.store) (reads_of old.store) result) × IfErr result (λ complaint. status_told complaint ≡ 1)
Serves (requests.Fold asked) shown old new saw observed was now result =
    ReadsTwice old.store new.store result (IsFold (asks_shown shown) (IsToldAt old.place new.store) old.place.base.now (reads_of old.store) was now result)
    × IfErr result (λ complaint. status_told complaint ≡ 1)
Serves (requests.Draw asked) shown old new saw observed was now result =
    ReadsTwice old.store new.store result (IsDrawn (asks_shown shown) (IsToldAt old.place new.store) old.place.base.now (reads_of old.store) now result)
    × IfErr result (λ complaint. status_told complaint ≡ 1)
Serves (requests.Top asked ranking is_json) shown old new saw observed was now result =
    ReadsTrace old.store new.store result (IsTop (asks_shown shown) ranking is_json (IsToldAt old.place new.store) old.place.base.now (reads_of old.store) was now result)
    × IfErr result (λ complaint. status_told complaint ≡ 1)
Serves (requests.Wipe asked is_forced) shown old new saw observed was now result = (honest_of new.store → Clears (clearing_of is_forced) old.place old.store new.store was now result)
    × (honest_of new.store → IsNotToWipe (clearing_of is_forced) (reads_of old.store) → OnlyLooks old.store new.store) × (honest_of new.store → LeavesOnly clock_of moments_of old.store new.store (IsClearing (images_of old.store)))
Serves (requests.Record asked) shown old new saw observed was now result = Records old.place (wanted old.place.kind (run_end_of asked)) old.store new.store saw.remaining was now result
Serves (requests.Import asked rules) shown old new saw observed was now result = Feeds old.place (wanted old.place.kind (run_end_of asked)) rules old.store new.store saw observed was now result

-- no device call was made yet on the files of a trace, whatever the world that they are part of
abbrev pub IsUntouched : World → Files → Type 0
IsUntouched world files = past_of files.store ≡ record { world = world; names = (past_of files.store).names; count = file_count files.place.kind; events = []; earlier = [] }

-- and they aren't locked: who writes them may take the lock
pub record IsFree (world : World) (files : Files) : Type 0 where
  pub past : IsUntouched world files
  pub not_locked : locked_of files.store ≡ false

-- and their lock was taken
pub record IsLocked (world : World) (files : Files) : Type 0 where
  pub past : IsUntouched world files
  pub locked : locked_of files.store ≡ true
