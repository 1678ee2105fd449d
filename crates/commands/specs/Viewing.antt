-- A trace whose entries are looked at, and counted.
use Rattle.std.specs.Prelude.{◌≡◌, ◌⊎◌, ◌++◌, ℕ, ℤ, Bool, IsTrue, Option, Some, None, List, Result, Ok, Err}
use Rattle.std.specs.Io.KnownBytes.{Appends, Keeps}
use Rattle.std.specs.String.{string_bytes}
use Rattle.command_line.specs.declared.ranking.Ranking.{Ranking}
use Rattle.entry_codec.specs.Entries.{Entry, bytes_of}
use Rattle.trace_store.specs.Disk.{Image}
use Rattle.trace_text.specs.Choosing.{Asks}
use Rattle.trace_client.specs.Forms.{as_bytes}
use Rattle.foreign_files.specs.Standing.{IsStanding}
use Rattle.foreign_files.specs.declared.standing.Standing.TheVariants as standings
use Rattle.trace_views.specs.Counting.{tellings}
use Rattle.trace_views.specs.Tallies.{IsCounted}
use Rattle.trace_views.specs.Acts.{acts_in}
use Rattle.trace_views.specs.Drawings.{ending}
use Rattle.trace_views.specs.Stacks.{AreOrdered, calls_at, calls_of, lines_of}
use Rattle.trace_views.specs.TableObjects.{WritesTable}
use Rattle.trace_views.specs.declared.ends_seen.EndsSeen.{EndsSeen}
use Rattle.trace_views.specs.declared.folded.Folded.{Folded}
use Rattle.trace_views.specs.declared.stacks.Stacks.{Stacks}
use Rattle.trace_views.specs.declared.tallies.Tallies.{Tallies}
use Rattle.trace_views.specs.declared.top.Top.{Top}
use Rattle.trace_views.specs.declared.view.ViewFault.{ViewFault}
use Rattle.trace_views.specs.declared.view.ViewFault.TheVariants as views
use Rattle.trace_listings.specs.Listings.{WritesStore}
use Rattle.trace_reader.specs.Reading.{IsWhyNotRead}
use Rattle.trace_reader.specs.declared.fault.ReadFault.{ReadFault}
use Rattle.faults.specs.Faults.{read_fault}
use Rattle.faults.specs.declared.complaint.Complaint.{Complaint}
use Rattle.faults.specs.declared.complaint.Complaint.TheVariants as complaints
use Rattle.script_runner.specs.declared.fault.SimFault.{SimFault}
use Rattle.commands.specs.Telling.{IsOfMemory, IsOfWriter}

-- the entries that an export of a trace writes, of those that are asked for
pub record AreExported (asks : Option Asks) (image : Image) (taken : List Entry) : Type 0 where
  pub there : IsStanding standings.Ours image
  pub writes : WritesStore (as_bytes asks) image (bytes_of taken)

-- that there are too many rows is told with the name of the trace
abbrev pub IsOfRows : List ℕ → Complaint → Type 0
IsOfRows base (complaints.TooManyRows name) = string_bytes name ≡ base
IsOfRows base complaint = ⊥

-- what is told where a view takes no more, also where there is no memory for it
abbrev pub TellsStop : List ℕ → ViewFault → Complaint → Type 0
TellsStop base views.NoMemory complaint = IsOfMemory complaint
TellsStop base views.TooMany complaint = IsOfRows base complaint ⊎ IsOfMemory complaint
TellsStop base views.Write complaint = IsOfWriter complaint

-- some view has failed since there are too many rows
abbrev pub IsFullView : {V : Type 0} → (V → Option ViewFault) → Type 0
IsFullView {V} failed = (view : V) × (failed view ≡ Some views.TooMany)

-- what is told of a trace that isn't shown: why it isn't read; or that there are too many rows; or that there was no memory; or that it can't be written
pub data IsNotShown (Full : Type 0) (Told : SimFault → Complaint → Type 0) (base : List ℕ) (image : Image) (complaint : Complaint) : Type 0 where
  refused : (fault : ReadFault) → IsWhyNotRead fault image → Told (read_fault fault) complaint → IsNotShown Full Told base image complaint
  too_many : Full → IsOfRows base complaint → IsNotShown Full Told base image complaint
  no_memory : IsOfMemory complaint → IsNotShown Full Told base image complaint
  not_written : IsOfWriter complaint → IsNotShown Full Told base image complaint

-- a view has seen all entries that an export has, behind those that it had seen before
abbrev pub HasSeen : Option Asks → Image → List Entry → List Entry → Type 0
HasSeen asks image before seen = (entries : List Entry) × (seen ≡ before ++ entries) × AreExported asks image entries

-- what a reading came to, for a view that had seen these: it hasn't failed, and has seen the others; or what is told
abbrev pub IsViewed : {V : Type 0} → Option Asks → List Entry → (V → List Entry) → (V → Option ViewFault) → (SimFault → Complaint → Type 0) → List ℕ → Image → Result V Complaint → Type 0
IsViewed asks before seen failed Told base image (Ok view) = HasSeen asks image before (seen view) × (failed view ≡ None)
IsViewed asks before seen failed Told base image (Err complaint) = IsNotShown (IsFullView failed) Told base image complaint

-- how a command ended that shows a trace so: all entries that an export of it has, of those that are asked for, were seen and are shown; or it isn't shown, and where no writer failed, this is left
pub data IsShownBy (Shows : List Entry → Type 0) (Full Left : Type 0) (asks : Option Asks) (Told : SimFault → Complaint → Type 0) (base : List ℕ) (image : Image) : Result Unit Complaint → Type 0 where
  shown : (entries : List Entry) → AreExported asks image entries → Shows entries → IsShownBy Shows Full Left asks Told base image (Ok tt)
  not_shown : (complaint : Complaint) → IsNotShown Full Told base image complaint → IsOfWriter complaint ⊎ Left → IsShownBy Shows Full Left asks Told base image (Err complaint)

-- the entries were counted, and where JSON is asked for, what is written tells what was counted
pub record ShowsTable (ranking : Ranking) (is_json : Bool) (was now : Option (List ℕ)) (entries : List Entry) : Type 0 where
  pub tallies : Tallies
  pub counted : IsCounted tallies (tellings entries)
  pub told : IsTrue is_json → WritesTable ranking (tellings entries) was now

-- what a first look at which functions tell their ends has seen, and why it takes no more
abbrev pub ends_seen : EndsSeen → List Entry
ends_seen seen = seen.taken.entries

abbrev pub ends_failed : EndsSeen → Option ViewFault
ends_failed seen = seen.fault

-- the lines of stacks of calls were written, in the order of their texts: each was counted as often as the entries say that it was called, where those of a first look, which an export has too, told which functions tell their ends
pub record ShowsStacks (asks : Option Asks) (image : Image) (was now : Option (List ℕ)) (entries : List Entry) : Type 0 where
  pub stacks : Stacks
  pub before : List Entry
  pub looked : AreExported asks image before
  pub calls : (text : List ℕ) → calls_at stacks.rows.rows text ≡ calls_of text (acts_in before) (acts_in entries)
  pub ordered : AreOrdered stacks.rows.rows
  pub lines : Appends was now (lines_of stacks.is_timed stacks.rows.rows.entries)

-- what is written last ends the drawing of some events
abbrev pub EndsDrawing : Option (List ℕ) → Type 0
EndsDrawing now = (events : Option (List ℕ)) × ((first : Option ℤ) × Appends events now (ending first))

-- a table; where there is none, nothing is written
abbrev pub IsTop : Option Asks → Ranking → Bool → (SimFault → Complaint → Type 0) → List ℕ → Image → Option (List ℕ) → Option (List ℕ) → Result Unit Complaint → Type 0
IsTop asks ranking is_json Told base image was now result = IsShownBy (ShowsTable ranking is_json was now) (IsFullView (λ (top : Top). top.fault)) (Keeps was now) asks Told base image result

-- the same of stacks of calls
abbrev pub IsFold : Option Asks → (SimFault → Complaint → Type 0) → List ℕ → Image → Option (List ℕ) → Option (List ℕ) → Result Unit Complaint → Type 0
IsFold asks Told base image was now result = IsShownBy (ShowsStacks asks image was now) (IsFullView ends_failed ⊎ IsFullView (λ (folded : Folded). folded.fault)) (Keeps was now) asks Told base image result

-- the same of events, of which some may be written whatever comes
abbrev pub IsDrawn : Option Asks → (SimFault → Complaint → Type 0) → List ℕ → Image → Option (List ℕ) → Result Unit Complaint → Type 0
IsDrawn asks Told base image now result = IsShownBy (λ entries. EndsDrawing now) Unit Unit asks Told base image result
