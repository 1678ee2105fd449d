-- What a command does, step by step.
use Rattle.std.proofs.Common.{◌⊎◌, ℕ, Option, List, Ok, Err, OnOk, OnErr, IfErr}
use Rattle.std.specs.Prelude.{Result}
use Rattle.std.specs.Io.KnownBytes.{Appends, Keeps}
use Rattle.trace_store.specs.Disk.{Image}
use Rattle.stores.specs.declared.folder_store.FolderStore.{FolderStore}
use Rattle.trace_client.specs.Forms.{Form}
use Rattle.trace_client.specs.Output.{AppendsPrefix}
use Rattle.foreign_files.specs.Standing.{IsStanding}
use Rattle.foreign_files.specs.declared.standing.Standing.TheVariants as standings
use Rattle.trace_listings.specs.Listings.{WritesStore}
use Rattle.trace_reader.specs.declared.wiping.Clearing.{Clearing}
use Rattle.commands.specs.Commands.{IsRead, whole, not_written_out, IsCleared, IsOfMark, Clears, done, not_told}
use Rattle.script_runner.specs.declared.fault.SimFault.{SimFault}
use Rattle.trace_lookup.specs.declared.place.Place.{Place}
use Rattle.commands.specs.Telling.{IsOfWriter}
use Rattle.script_runner.specs.Texts.{line_of}
use Rattle.script_runner.specs.declared.answer.Answer.TheVariants.{Done}
use Rattle.faults.specs.declared.complaint.Complaint.{Complaint}

-- a trace was written whole, and then written out or not
pub is_read : (form : Form) (Told : SimFault → Complaint → Type 0) (image : Image) (was now : Option (List ℕ)) (result : Result Unit Complaint) (mid : Option (List ℕ)) → ((text : List ℕ) × WritesStore form image text × Appends was mid text) → IsStanding standings.Ours image → Keeps mid now
    → IfErr result IsOfWriter → IsRead form Told image was now result
is_read form Told image was now (Ok out) mid wrote there keeps unwritten = whole wrote.0 mid there wrote.1 wrote.2 keeps
is_read form Told image was now (Err complaint) mid wrote there keeps unwritten = not_written_out wrote.0 mid complaint there wrote.1 wrote.2 keeps unwritten

-- a trace was cleared, and that was told or not
pub is_clear : (clearing : Clearing) (place : Place) (old new : FolderStore) (was now : Option (List ℕ)) (result : Result Unit Complaint) → IsCleared clearing old new → OnOk result (Appends was now (line_of Done)) → OnErr result (AppendsPrefix was now (line_of Done)) → IfErr result (λ complaint. IsOfWriter complaint ⊎ IsOfMark complaint)
    → Clears clearing place old new was now result
is_clear clearing place old new was now (Ok out) cleared wrote cut why = done cleared wrote
is_clear clearing place old new was now (Err complaint) cleared wrote cut why = not_told complaint cleared cut why
