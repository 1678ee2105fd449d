-- What is told of a fault that ended a command.
use Rattle.std.specs.Prelude.{◌≡◌, ◌⊎◌, None}
use Rattle.script_runner.specs.Faults.{IsOfDevice}
use Rattle.script_runner.specs.declared.fault.SimFault.{SimFault}
use Rattle.script_runner.specs.declared.fault.SimFault.TheVariants as faults
use Rattle.script_runner.specs.declared.refusal.Refusal.{Refusal}
use Rattle.faults.specs.declared.complaint.Complaint.{Complaint}
use Rattle.faults.specs.declared.complaint.Complaint.TheVariants as complaints

-- a refusal is told as it is; where a device call failed also with the file and what the system said, or that another process has that file
abbrev pub TellsRefusal : Refusal → SimFault → Type 0
TellsRefusal refusal (faults.Refused told) = told ≡ refusal
TellsRefusal refusal (faults.OfFile told name reason) = (told ≡ refusal) × IsOfDevice refusal
TellsRefusal refusal (faults.InUse name) = IsOfDevice refusal
TellsRefusal refusal _ = ⊥

-- a fault is told as it is, a refusal so, or with the file that is one too many; and a file that isn't a trace's, or that there is no trace, with its name
abbrev pub Tells : SimFault → Complaint → Type 0
Tells (faults.Refused refusal) (complaints.Fault told advice) = TellsRefusal refusal told
Tells (faults.Refused refusal) (complaints.TooManyOpen name files reason) = IsOfDevice refusal
Tells fault (complaints.Fault told advice) = told ≡ fault
Tells (faults.Foreign file is_stream) (complaints.Foreign name looks_so) = looks_so ≡ is_stream
Tells faults.Absent (complaints.Absent name advice) = Unit {0}
Tells _ _ = ⊥

-- there was no memory for more
abbrev pub IsOfMemory : Complaint → Type 0
IsOfMemory complaint = complaint ≡ complaints.Fault faults.NoMemory None

-- what was written can't be written out
abbrev pub IsOfWriter : Complaint → Type 0
IsOfWriter complaint = complaint ≡ complaints.Fault faults.Write None

-- what is told of a fault, also where there is no memory for that
abbrev pub IsToldOf : SimFault → Complaint → Type 0
IsToldOf fault complaint = Tells fault complaint ⊎ IsOfMemory complaint
