-- What is told of how much an import kept of its input.
use Rattle.std.specs.Prelude.{ℕ, ◌+◌, ◌-◌, ◌^◌, min, Option, Some, None}
use Rattle.script_runner.specs.declared.fault.SimFault.{SimFault}
use Rattle.script_runner.specs.declared.fault.SimFault.TheVariants as faults
use Rattle.faults.specs.declared.kept.Kept.{Kept}
use Rattle.faults.specs.declared.complaint.Advice.{Advice}
use Rattle.faults.specs.declared.complaint.Advice.TheVariants as advices
use Rattle.faults.specs.declared.complaint.Complaint.{Complaint}
use Rattle.faults.specs.declared.complaint.Complaint.TheVariants as complaints

-- what an advice says of it
abbrev pub kept_advised : Advice → Option Kept
kept_advised (advices.GoesOn kept) = kept
kept_advised (advices.DiskFailed kept) = kept
kept_advised (advices.Full kept) = kept
kept_advised _ = None

-- what a complaint does
abbrev pub kept_told : Complaint → Option Kept
kept_told (complaints.Fault fault (Some advice)) = kept_advised advice
kept_told _ = None

-- an advice that says so, where it is one of how to go on
abbrev pub advice_with : Option Kept → Advice → Advice
advice_with kept (advices.GoesOn was) = advices.GoesOn kept
advice_with kept (advices.DiskFailed was) = advices.DiskFailed kept
advice_with kept (advices.Full was) = advices.Full kept
advice_with kept advice = advice

-- a complaint that does
abbrev pub complaint_with : Option Kept → Complaint → Complaint
complaint_with kept (complaints.Fault fault (Some advice)) = complaints.Fault fault (Some (advice_with kept advice))
complaint_with kept complaint = complaint

-- a place so many bytes further on, where a u64 holds it
abbrev pub place_past : ℕ → ℕ → ℕ
place_past skip place = min (place + skip) (2 ^ 64 - 1)

-- a stream's fault where it stands in an input, so many bytes of which were passed over first
abbrev pub fault_past : ℕ → SimFault → SimFault
fault_past skip (faults.Truncated place) = faults.Truncated (place_past skip place)
fault_past skip (faults.BadOp place) = faults.BadOp (place_past skip place)
fault_past skip (faults.ZeroDrop place) = faults.ZeroDrop (place_past skip place)
fault_past skip (faults.BadMessage place) = faults.BadMessage (place_past skip place)
fault_past skip fault = fault
