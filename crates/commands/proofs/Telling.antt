-- What is told of a fault.
use Rattle.std.proofs.Common.{◌≡◌, Option, Some, None, refl, ap, ◌∙◌, inl, inr}
use Rattle.script_runner.specs.Faults.{status_of}
use Rattle.script_runner.specs.declared.fault.SimFault.{SimFault}
use Rattle.script_runner.specs.declared.fault.SimFault.TheVariants as faults
use Rattle.script_runner.specs.declared.refusal.Refusal.{Refusal}
use Rattle.trace_reader.specs.declared.fault.ReadFault.{ReadFault}
use Rattle.trace_reader.specs.declared.fault.ReadFault.TheVariants as reads
use Rattle.faults.specs.Complaints.{status_told}
use Rattle.faults.specs.Faults.{read_fault}
use Rattle.faults.specs.Kept.{advice_with, complaint_with}
use Rattle.faults.specs.declared.kept.Kept.{Kept}
use Rattle.faults.specs.declared.complaint.Advice.{Advice}
use Rattle.faults.specs.declared.complaint.Complaint.{Complaint}
use Rattle.faults.specs.declared.complaint.Complaint.TheVariants as complaints
use Rattle.commands.specs.Telling.{TellsRefusal, Tells, IsToldOf}

-- with any advice
tells_so : (fault told : SimFault) (was advice : Option Advice) → Tells fault (complaints.Fault told was) → Tells fault (complaints.Fault told advice)
tells_so (faults.Refused refusal) told was advice h = h
tells_so fault told was advice h = h

-- also with how much is kept
pub tells_kept : (kept : Option Kept) (fault : SimFault) (complaint : Complaint) → Tells fault complaint → Tells fault (complaint_with kept complaint)
tells_kept kept fault (complaints.Fault told (Some advice)) h = tells_so fault told (Some advice) (Some (advice_with kept advice)) h
tells_kept kept fault (complaints.Fault told None) h = h
tells_kept kept fault complaint h = h

pub told_kept : (kept : Option Kept) (fault : SimFault) (complaint : Complaint) → IsToldOf fault complaint → IsToldOf fault (complaint_with kept complaint)
told_kept kept fault complaint h = elim h [
  | inl own ↦ inl (tells_kept kept fault complaint own)
  | inr other ↦ inr (ap (complaint_with kept) other)
]

-- ---- its exit status is that of the fault

status_of_refusal : (refusal : Refusal) (told : SimFault) → TellsRefusal refusal told → status_of told ≡ 1
status_of_refusal refusal (faults.Refused told) h = refl
status_of_refusal refusal (faults.OfFile told name reason) h = refl
status_of_refusal refusal (faults.InUse name) h = refl
status_of_refusal refusal _ h = absurd h

status_of_told : (fault : SimFault) (complaint : Complaint) → Tells fault complaint → status_told complaint ≡ status_of fault
status_of_told (faults.Refused refusal) (complaints.Fault told advice) h = status_of_refusal refusal told h
status_of_told (faults.Refused refusal) (complaints.TooManyOpen name files reason) h = refl
status_of_told fault (complaints.Fault told advice) h = ap status_of h
status_of_told (faults.Foreign file is_stream) (complaints.Foreign name looks_so) h = refl
status_of_told faults.Absent (complaints.Absent name advice) h = refl
status_of_told _ _ h = absurd h

status_of_read : (fault : ReadFault) → status_of (read_fault fault) ≡ 1
status_of_read (reads.Refused cause) = refl
status_of_read (reads.Foreign file is_stream) = refl
status_of_read reads.Absent = refl
status_of_read reads.Write = refl
status_of_read reads.NoMemory = refl

-- a trace that isn't read has the status 1
pub told_as_1 : (fault : ReadFault) (complaint : Complaint) → IsToldOf (read_fault fault) complaint → status_told complaint ≡ 1
told_as_1 fault complaint h = elim h [
  | inl own ↦ status_of_told (read_fault fault) complaint own ∙ status_of_read fault
  | inr other ↦ ap status_told other
]
