-- What is named of a fault: a file by the place of its trace, and why the system refused a call.
use Rattle.std.specs.Prelude.{◌≡◌, ◌⊎◌, ℕ, Option, Some, None, List}
use Rattle.std.specs.Option.{option_map}
use Rattle.std.specs.String.{string_bytes}
use Rattle.std.specs.declared.alloc.Global.{Global}
use Rattle.std.specs.declared.string.String.{String}
use Rattle.std.specs.declared.io.Error.{Error}
use Rattle.stores.specs.Held.{IsHeld}
use Rattle.stores.specs.FolderStore.{fault_of}
use Rattle.stores.specs.declared.fault.FileFault.{FileFault}
use Rattle.stores.specs.declared.folder_store.FolderStore.{FolderStore}
use Rattle.script_runner.specs.Faults.{IsOfDevice}
use Rattle.script_runner.specs.declared.fault.SimFault.{SimFault}
use Rattle.script_runner.specs.declared.fault.SimFault.TheVariants as faults
use Rattle.script_runner.specs.declared.refusal.Refusal.{Refusal}
use Rattle.trace_lookup.specs.Places.{name_of}
use Rattle.trace_lookup.specs.Room.{IsTooMany}
use Rattle.trace_lookup.specs.declared.place.Place.{Place}
use Rattle.faults.specs.declared.complaint.Advice.{Advice}
use Rattle.faults.specs.declared.complaint.Complaint.{Complaint}
use Rattle.faults.specs.declared.complaint.Complaint.TheVariants as complaints
use Rattle.commands.specs.Telling.{Tells, IsOfMemory}

-- the name of a file of a trace
abbrev pub name_at : Place → ℕ → List ℕ
name_at place file = name_of place.kind place.base.now place.suffix.now file

-- the same file, reason and folder
pub record IsSameFault (own copy : FileFault) : Type 0 where
  pub file : copy.file ≡ own.file
  pub reason : copy.reason ≡ own.reason
  pub folder : option_map string_bytes copy.folder ≡ option_map string_bytes own.folder

-- a refusal for a call that the system refused: that another process has its file, where it has; else the file's name and why
pub data TellsCall (place : Place) (refusal : Refusal) (call : FileFault) : SimFault → Type 0 where
  in_use : (name : String Global) → IsHeld call.reason → string_bytes name ≡ name_at place call.file → TellsCall place refusal call (faults.InUse name)
  of_file : (name : String Global) (same : FileFault) → (IsHeld call.reason → ⊥) → string_bytes name ≡ name_at place call.file → IsSameFault call same
      → TellsCall place refusal call (faults.OfFile refusal name same)

-- a refusal is told so where it is of the device and the system refused a call, and else as it is
abbrev pub NamesCall : Place → Option FileFault → Refusal → SimFault → Type 0
NamesCall place None refusal told = told ≡ faults.Refused refusal
NamesCall place (Some call) refusal told = (IsOfDevice refusal → TellsCall place refusal call told) × ((IsOfDevice refusal → ⊥) → told ≡ faults.Refused refusal)

-- the file that is one too many is named, and why it can't be opened: the call that the system refused, since too many are open
pub record NamesCrowded (place : Place) (newest : Option FileFault) (name : List ℕ) (reason : Error) : Type 0 where
  pub call : FileFault
  pub is : newest ≡ Some call
  pub named : name ≡ name_at place call.file
  pub why : reason ≡ call.reason
  pub too_many : IsTooMany reason

-- the newest call that the system refused isn't that one
abbrev pub NotCrowded : Option FileFault → Refusal → Type 0
NotCrowded None refusal = Unit {0}
NotCrowded (Some call) refusal = IsOfDevice refusal → IsTooMany call.reason → ⊥

-- a refusal names that call; a file that isn't a trace's is named, and a trace that isn't there
abbrev pub Names : Place → Option FileFault → SimFault → Complaint → Type 0
Names place newest (faults.Refused refusal) (complaints.Fault told advice) = NamesCall place newest refusal told × NotCrowded newest refusal
Names place newest (faults.Refused refusal) (complaints.TooManyOpen name files reason) = IsOfDevice refusal × NamesCrowded place newest (string_bytes name) reason
Names place newest (faults.Foreign file is_stream) (complaints.Foreign name looks_so) = string_bytes name ≡ name_at place file
Names place newest faults.Absent (complaints.Absent name advice) = string_bytes name ≡ place.base.now
Names place newest _ _ = Unit {0}

-- a fault is told as it is
abbrev pub IsFaultAlone : SimFault → Complaint → Type 0
IsFaultAlone fault complaint = (advice : Option Advice) × (complaint ≡ complaints.Fault fault advice)

-- a fault is told as one at this place, by the newest call that the system refused
abbrev pub TellsAt : Place → FolderStore → SimFault → Complaint → Type 0
TellsAt place store fault complaint = Tells fault complaint × Names place (fault_of store) fault complaint

-- what is told of it, also where there is no memory for that
abbrev pub IsToldAt : Place → FolderStore → SimFault → Complaint → Type 0
IsToldAt place store fault complaint = TellsAt place store fault complaint ⊎ IsOfMemory complaint
