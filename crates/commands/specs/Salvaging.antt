-- What each open file of a trace holds by itself, written whether or not the trace is refused.
use Rattle.std.specs.Prelude.{◌≡◌, ℕ, ◌+◌, ◌*◌, length, List, Option}
use Rattle.std.specs.Io.KnownBytes.{Appends, Keeps}
use Rattle.trace_client.specs.Forms.{Form}
use Rattle.trace_store.specs.Disk.{Image}
use Rattle.foreign_files.specs.Standing.{IsStanding}
use Rattle.foreign_files.specs.declared.standing.Standing.TheVariants as standings
use Rattle.recovery.specs.CallCounts.{most_in}
use Rattle.commands.specs.Files.{most_to_tell}
use Rattle.trace_listings.specs.Salvage.{IsSalvaged, IsSalvageBegun, IsLeftOf}
use Rattle.trace_listings.specs.declared.salvaging.Salvaged.{Salvaged}
use Rattle.trace_reader.specs.declared.fault.ReadFault.{ReadFault}
use Rattle.faults.specs.Faults.{read_fault}
use Rattle.faults.specs.declared.salvage.Salvage.{Salvage}
use Rattle.faults.specs.declared.complaint.Complaint.{Complaint}
use Rattle.faults.specs.declared.complaint.Complaint.TheVariants as complaints
use Rattle.script_runner.specs.declared.fault.SimFault.TheVariants as faults
use Rattle.script_runner.specs.declared.fault.SimFault.{SimFault}
use Rattle.commands.specs.Telling.{IsOfMemory, IsOfWriter}

-- the most device calls of one: to read each open file, to see whether a file has a byte, and to tell of a fault
abbrev pub most_to_salvage : Image → ℕ
most_to_salvage image = 5 * length image + most_in image + most_to_tell image

-- what a salvage came to, as it is told
pub record IsSum (s : Salvaged) (told : Salvage) : Type 0 where
  pub files : told.files ≡ s.files
  pub entries : told.entries ≡ s.entries
  pub missing : told.missing ≡ s.missing

-- that is told
abbrev pub TellsSum : Salvaged → Complaint → Type 0
TellsSum s complaint = (told : Salvage) × IsSum s told × (complaint ≡ complaints.Salvaged told)

-- what is told of one that came to its end: of no file, that there is no trace, exactly where none has a byte, unless a device call failed; else what it came to; or that it can't be told or written out
pub data IsSummary (Told : SimFault → Complaint → Type 0) (Failed : Type 0) (image : Image) (s : Salvaged) : Complaint → Type 0 where
  sums : (complaint : Complaint) → TellsSum s complaint → (s.files ≡ 0 → IsStanding standings.Absent image → Failed) → IsSummary Told Failed image s complaint
  no_trace : (complaint : Complaint) → s.files ≡ 0 → IsStanding standings.Absent image → Told faults.Absent complaint → IsSummary Told Failed image s complaint
  not_told : (complaint : Complaint) → IsOfMemory complaint → IsSummary Told Failed image s complaint
  not_written_out : (complaint : Complaint) → IsOfWriter complaint → IsSummary Told Failed image s complaint

-- how a salvage ended and is told, and what was written is written out: all that the files hold; or what a fault leaves of it
pub data IsSalvage (form : Form) (Told : SimFault → Complaint → Type 0) (Failed : Type 0) (image : Image) (was now : Option (List ℕ)) (complaint : Complaint) : Type 0 where
  whole : (s : Salvaged) (text : List ℕ) (mid : Option (List ℕ)) → IsSalvaged form image s text → Appends was mid text → Keeps mid now → IsSummary Told Failed image s complaint → IsSalvage form Told Failed image was now complaint
  stopped : (fault : ReadFault) (mid : Option (List ℕ)) → IsLeftOf (IsSalvageBegun form image) fault was mid → Keeps mid now → Told (read_fault fault) complaint → IsSalvage form Told Failed image was now complaint
