-- What is told of a command that ended before its end.
use Rattle.std.specs.Prelude.{◌≡◌, ℕ, None, Result, Ok, Err}
use Rattle.faults.specs.declared.complaint.Complaint.{Complaint}
use Rattle.faults.specs.declared.complaint.Complaint.TheVariants as complaints
use Rattle.script_runner.specs.Faults.{status_of}
use Rattle.script_runner.specs.declared.fault.SimFault.{SimFault}

-- the exit status
abbrev pub status_told : Complaint → ℕ
status_told (complaints.Fault fault advice) = status_of fault
status_told _ = 1

-- a fault is told as it is, and nothing else is
abbrev pub IsToldAs : Result Unit SimFault → Result Unit Complaint → Type 0
IsToldAs (Ok done) result = result ≡ Ok tt
IsToldAs (Err fault) result = result ≡ Err (complaints.Fault fault None)
