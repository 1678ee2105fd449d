-- A trace that another process may be writing.
use Rattle.std.specs.Prelude.{◌≡◌, ◌⊎◌, ◌≤◌, ℕ, ◌+◌, ◌*◌, nat_lt, if◌then◌else◌, length, List, Option, Result, Ok, Err, true, MatchResult}
use Rattle.std.specs.Io.KnownBytes.{Appends}
use Rattle.trace_store.specs.Disk.{Image}
use Rattle.recovery.specs.CallCounts.{most_in}
use Rattle.recovery.specs.declared.fault.RecoverFault.TheVariants as causes
use Rattle.stores.specs.FolderStore.{clock_of, failures_of, honest_of, reads_of, IsSame, IsClosedAnew}
use Rattle.stores.specs.declared.folder_store.FolderStore.{FolderStore}
use Rattle.foreign_files.specs.Standing.{IsStanding}
use Rattle.foreign_files.specs.declared.standing.Standing.TheVariants as standings
use Rattle.trace_items.specs.declared.consumer.Consumer.{Ghosts}
use Rattle.trace_client.specs.Forms.{Form}
use Rattle.trace_listings.specs.Listings.{WritesStore}
use Rattle.trace_listings.specs.Windows.{IsWrittenInTurn}
use Rattle.trace_reader.specs.Handing.{TookStore}
use Rattle.trace_reader.specs.Listings.{TellsFailures}
use Rattle.trace_reader.specs.Openings.{IsOpened}
use Rattle.trace_reader.specs.Reading.{IsWhyNotRead}
use Rattle.trace_reader.specs.Traces.{IsOpenedCutShort, IsTraceCutShort}
use Rattle.trace_reader.specs.declared.fault.ReadFault.{ReadFault}
use Rattle.trace_reader.specs.declared.fault.ReadFault.TheVariants as faults
use Rattle.trace_reader.specs.declared.opened.Opened.{Opened}
use Rattle.trace_reader.specs.declared.opened.Opened.TheVariants as opened
use Rattle.faults.specs.declared.complaint.Complaint.{Complaint}
use Rattle.commands.specs.Files.{LooksOver, OnlyLooks, most_with}

-- the most device calls to read a trace of one file
abbrev pub most_calls : Image → ℕ
most_calls image = 2 * length image + most_in image

-- to look at the front of each file of one that has several, and to read the newest
abbrev pub most_to_open : Image → ℕ
most_to_open image = 2 * length image + most_in image + 2

-- to write out what was opened
abbrev pub most_opened : Image → ℕ
most_opened image = 2 * most_in image + 2

-- of several files that are opened again and again
abbrev pub most_of_several : Image → ℕ
most_of_several image = 32 * most_to_open image + most_opened image

-- to read a trace of one file or of several
abbrev pub most_to_read : Image → ℕ
most_to_read image = if nat_lt 1 (length image) then most_of_several image else most_calls image

-- a trace was read, by at most so many device calls, with those to tell of a fault that ended it; and this was told of it
abbrev pub ReadsTrace : {T : Type 0} → FolderStore → FolderStore → Result T Complaint → Type 0 → Type 0
ReadsTrace old new result Told = LooksOver old new (most_with result (most_to_read (reads_of old)) (reads_of old)) Told

-- the same of one that is read twice
abbrev pub ReadsTwice : {T : Type 0} → FolderStore → FolderStore → Result T Complaint → Type 0 → Type 0
ReadsTwice old new result Told = LooksOver old new (most_with result (2 * most_to_read (reads_of old)) (reads_of old)) Told

-- files that change while they are read may be why a trace is refused
abbrev pub MayHaveChanged : ReadFault → Type 0
MayHaveChanged (faults.Refused (causes.Damaged file place)) = Unit {0}
MayHaveChanged (faults.Refused causes.Mixed) = Unit {0}
MayHaveChanged (faults.Refused causes.Sequence) = Unit {0}
MayHaveChanged (faults.Refused causes.Device) = Unit {0}
MayHaveChanged _ = ⊥

-- files may have been opened so in the midst of a turn
abbrev pub MayBeTorn : Result Opened ReadFault → Type 0
MayBeTorn (Ok (opened.Wrap run_end)) = run_end.may_be_torn ≡ true
MayBeTorn (Ok opened.Other) = Unit {0}
MayBeTorn (Err fault) = MayHaveChanged fault

-- one device call failed where the fault of an opening tells of one, else none did
abbrev pub FailsSo : {T : Type 0} → FolderStore → FolderStore → Result T ReadFault → Type 0
FailsSo old new result = MatchResult result (λ _. failures_of new ≡ failures_of old) (TellsFailures (failures_of old) (failures_of new))

-- so many openings one after the other that may have been torn, after each of which the files are to be opened anew
pub data Openings (first : FolderStore) : ℕ → FolderStore → Type 0 where
  none : Openings first 0 first
  more : (n : ℕ) (mid seen now : FolderStore) (result : Result Opened ReadFault) → Openings first n mid → MayBeTorn result → FailsSo mid seen result
      → IsSame seen now → IsClosedAnew seen now → Openings first (n + 1) now

-- at most 31 of them, and then the one that was answered
pub record OpensInTurn {T : Type 0} (old new : FolderStore) (result : Result T ReadFault) : Type 0 where
  pub count : ℕ
  pub few : count ≤ 31
  pub mid : FolderStore
  pub openings : Openings old count mid
  pub last : FailsSo mid new result

-- how the files are asked where a trace is read; those of one that has no more than one file are opened once
pub record ReadsLive (old new : FolderStore) (result : Result Unit ReadFault) : Type 0 where
  pub only_reads : OnlyLooks old new
  pub at_most : honest_of new → clock_of new ≤ clock_of old + most_to_read (reads_of old)
  pub in_turn : OpensInTurn old new result
  pub once : length (reads_of old) ≤ 1 → FailsSo old new result

-- what a fault leaves of a consumer: as of any trace, or as of several files that were opened
abbrev pub IsLiveCutShort : {C : Type 0} → Ghosts C → ReadFault → Image → C → C → Type 0
IsLiveCutShort g fault image old new = IsTraceCutShort g fault image old new ⊎ ((what : Opened) × (2 ≤ length image) × IsOpened image what × IsOpenedCutShort g what fault image old new)

-- a trace was handed to a consumer; or this fault tells why it wasn't, and what it leaves
abbrev pub HandsTrace : {C : Type 0} → Ghosts C → Image → C → C → Result Unit ReadFault → Type 0
HandsTrace g image old new (Ok done) = IsStanding standings.Ours image × TookStore g image old new
HandsTrace g image old new (Err fault) = IsWhyNotRead fault image × IsLiveCutShort g fault image old new

-- the same of one that is written in a form
abbrev pub WritesLive : Form → Image → Option (List ℕ) → Option (List ℕ) → ℕ → Result Unit ReadFault → Type 0
WritesLive form image old new count (Ok done) = IsStanding standings.Ours image × ((text : List ℕ) × WritesStore form image text × Appends old new text)
WritesLive form image old new count (Err fault) = IsWhyNotRead fault image × IsWrittenInTurn form fault image old new count
