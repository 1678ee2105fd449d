-- What a salvage wrote, written out.
use Rattle.std.proofs.Common.{◌≡◌, ◌⊎◌, Option, List, ℕ, inl, inr, sym, subst}
use Rattle.std.specs.Io.KnownBytes.{Appends, Keeps}
use Rattle.trace_store.specs.Disk.{Image}
use Rattle.trace_client.specs.Forms.{Form}
use Rattle.trace_reader.specs.declared.fault.ReadFault.{ReadFault}
use Rattle.trace_store.specs.Moments.{Rose}
use Rattle.stores.specs.FolderStore.{honest_of, reads_of, failures_of}
use Rattle.stores.specs.declared.folder_store.FolderStore.{FolderStore}
use Rattle.foreign_files.specs.Standing.{IsStanding}
use Rattle.foreign_files.specs.declared.standing.Standing.TheVariants as standings
use Rattle.commands.specs.Files.{OnlyLooks}
use Rattle.trace_listings.specs.Salvage.{IsSalvaged, IsSalvageBegun, IsLeftOf}
use Rattle.trace_listings.specs.declared.salvaging.Salvaged.{Salvaged}
use Rattle.faults.specs.Faults.{read_fault}
use Rattle.faults.specs.declared.complaint.Complaint.{Complaint}
use Rattle.script_runner.specs.declared.fault.SimFault.{SimFault}
use Rattle.commands.specs.Telling.{IsOfMemory}
use Rattle.commands.specs.Salvaging.{TellsSum, IsSummary, sums, not_told, IsSalvage, whole, stopped}

-- all of it
pub salvaged_whole : (form : Form) (Told : SimFault → Complaint → Type 0) (Failed : Type 0) (image : Image) (s : Salvaged) (was mid now : Option (List ℕ)) (complaint : Complaint) → ((text : List ℕ) × IsSalvaged form image s text × Appends was mid text) → Keeps mid now → IsSummary Told Failed image s complaint → IsSalvage form Told Failed image was now complaint
salvaged_whole form Told Failed image s was mid now complaint wrote keeps told = whole s wrote.0 mid wrote.1 wrote.2 keeps told

-- what a fault leaves
pub salvaged_until : (form : Form) (Told : SimFault → Complaint → Type 0) (Failed : Type 0) (image : Image) (fault : ReadFault) (was mid now : Option (List ℕ)) (complaint : Complaint) → IsLeftOf (IsSalvageBegun form image) fault was mid → Keeps mid now → Told (read_fault fault) complaint → IsSalvage form Told Failed image was now complaint
salvaged_until form Told Failed image fault was mid now complaint left keeps told = stopped fault mid left keeps told

-- what it came to is told, or there is no memory for that
pub sums_up : (Told : SimFault → Complaint → Type 0) (Failed : Type 0) (image : Image) (s : Salvaged) (complaint : Complaint) → (s.files ≡ 0 → IsStanding standings.Absent image → Failed) → TellsSum s complaint ⊎ IsOfMemory complaint → IsSummary Told Failed image s complaint
sums_up Told Failed image s complaint there told = elim told [
  | inl own ↦ sums complaint own there
  | inr other ↦ not_told complaint other
]

-- no file has a byte, as the files were before they were looked at
pub absent_before : (old mid : FolderStore) → OnlyLooks old mid → honest_of mid → IsStanding standings.Absent (reads_of mid) → IsStanding standings.Absent (reads_of old)
absent_before old mid looks h none = subst (λ (i : Image). IsStanding standings.Absent i) (looks.same_reads h) none

-- where that isn't said, a device call failed
pub failed_since : (old mid : FolderStore) (now : ℕ) (files : ℕ) → OnlyLooks old mid → honest_of mid → failures_of mid ≡ failures_of old → (files ≡ 0 → IsStanding standings.Absent (reads_of mid) → Rose (failures_of mid) now)
    → files ≡ 0 → IsStanding standings.Absent (reads_of old) → Rose (failures_of old) now
failed_since old mid now files looks h same failed zero none =
    subst (λ (n : ℕ). Rose n now) same (failed zero (subst (λ (i : Image). IsStanding standings.Absent i) (sym (looks.same_reads h)) none))
