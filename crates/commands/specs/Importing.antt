-- What an import does with the real files of a trace, and what it tells.
use Rattle.std.specs.Prelude.{◌≡◌, ◌≢◌, ◌⊎◌, ℕ, List, [], ◌++◌, Result, Ok, Err}
use Rattle.stores.specs.declared.folder_store.FolderStore.{FolderStore}
use Rattle.stores.specs.contracts.folder_store.FolderStoreStore.TheImpl as folder
use Rattle.trace_store.specs.Device.{device_of}
use Rattle.trace_port.specs.Opened.{opened_told}
use Rattle.trace_port.specs.FilePort.{file_told}
use Rattle.trace_port.specs.contracts.pending.PendingRoom.TheImpl as pending
use Rattle.wrap_port.specs.WrapOpened.{wrap_opened_told}
use Rattle.wrap_port.specs.WrapPort.{wrap_told}
use Rattle.command_line.specs.declared.request.Rules.{Rules}
use Rattle.import.specs.Incoming.{Outside, IsFaultAt}
use Rattle.import.specs.Importing.{WasImported}
use Rattle.import.specs.declared.import.Closed.{Closed}
use Rattle.import.specs.declared.import.Closed.TheVariants.{Sealed, Kept, Left}
use Rattle.import.specs.declared.import.Imported.{Imported}
use Rattle.import.specs.declared.incoming.Incoming.{Incoming}
use Rattle.import.specs.declared.fault.ImportFault.{ImportFault}
use Rattle.import.specs.declared.fault.ImportFault.TheVariants as importing
use Rattle.faults.specs.Kept.{fault_past}
use Rattle.faults.specs.declared.complaint.Complaint.{Complaint}
use Rattle.commands.specs.Naming.{IsFaultAlone}
use Rattle.script_runner.specs.Answers.{opened_answer}
use Rattle.script_runner.specs.PortOpenings.{first_told}
use Rattle.script_runner.specs.Texts.{line_of}
use Rattle.script_runner.specs.declared.answer.Answer.TheVariants as answers
use Rattle.script_runner.specs.declared.fault.SimFault.{SimFault}
use Rattle.script_runner.specs.declared.fault.SimFault.TheVariants as faults
use Rattle.script_runner.specs.declared.opening.AnyOpening.{AnyOpening}
use Rattle.script_runner.specs.declared.opening.AnyOpening.TheVariants as openings
use Rattle.script_runner.specs.declared.refusal.Refusal.TheVariants as refusals
use Rattle.script_runner.specs.declared.reply.Origin.{Origin}

-- the same fault of an import, as a run has it
abbrev pub import_fault : ImportFault → SimFault
import_fault importing.Read = faults.Read
import_fault importing.NoMemory = faults.NoMemory
import_fault (importing.Truncated place) = faults.Truncated place
import_fault (importing.BadOp place) = faults.BadOp place
import_fault (importing.ZeroDrop place) = faults.ZeroDrop place
import_fault (importing.BadMessage place) = faults.BadMessage place
import_fault (importing.Refused fault) = faults.Refused (refusals.Port fault)

-- the same of how it ended
abbrev pub import_done : Result Unit ImportFault → Result Unit SimFault
import_done (Ok done) = Ok done
import_done (Err fault) = Err (import_fault fault)

-- what came first, past so many bytes, begins with no entry that a node writes, and that is told
pub record IsNoStream (skip longest place : ℕ) (part : List ℕ) (complaint : Complaint) : Type 0 where
  pub fault : ImportFault
  pub is : IsFaultAt longest fault place part
  pub told : IsFaultAlone (fault_past skip (import_fault fault)) complaint

-- what is told last, of a trace with so many entries: nothing where it was left as it is
abbrev pub closed_text : Closed → ℕ → List ℕ
closed_text Sealed total = line_of (answers.SealedAt total)
closed_text Kept total = line_of (answers.KeptAt total)
closed_text Left total = []

-- this was written of a text: all of it, or, where the writer failed, its beginning
pub record IsTextOf (result : Result Unit SimFault) (text begun : List ℕ) : Type 0 where
  pub missing : List ℕ
  pub is : text ≡ begun ++ missing
  pub whole : result ≢ Err faults.Write → missing ≡ []

-- an entry stream was put into a port over this opening, which then was closed and dropped
abbrev pub WasPut : AnyOpening → Rules → FolderStore → FolderStore → Outside → Outside → List ℕ → Incoming → Imported → Type 0
WasPut (openings.File opening) rules old new was is come incoming imported =
    WasImported (file_told folder.ghosts pending.ghosts) (opened_told pending.ghosts opening (device_of folder.ghosts old)) rules.longest rules.flushing rules.ending was is come incoming imported (device_of folder.ghosts new)
WasPut (openings.Wrap opening) rules old new was is come incoming imported =
    WasImported (wrap_told folder.ghosts pending.ghosts) (wrap_opened_told pending.ghosts opening (device_of folder.ghosts old)) rules.longest rules.flushing rules.ending was is come incoming imported (device_of folder.ghosts new)

-- the same, and what was written is how the port was opened and what became of its trace
pub record WasFed (opened : AnyOpening) (origin : Origin) (rules : Rules) (old new : FolderStore) (was is : Outside) (come : List ℕ) (incoming : Incoming) (result : Result Unit SimFault) (Writes : List ℕ → Type 0) : Type 0 where
  pub imported : Imported
  pub put : WasPut opened rules old new was is come incoming imported
  -- the writer's fault stands before the import's
  pub answer : (result ≡ import_done imported.done) ⊎ (result ≡ Err faults.Write)
  pub hello : List ℕ
  pub greets : IsTextOf result (line_of (opened_answer origin (first_told opened (device_of folder.ghosts old)).total)) hello
  pub last : List ℕ
  pub closes : IsTextOf result (closed_text imported.closed imported.total) last
  pub text : Writes (hello ++ last)
