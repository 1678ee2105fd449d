-- What a fault of a reading or a clearing is among those that end a run.
use Rattle.recovery.specs.declared.fault.RecoverFault.TheVariants as recovering
use Rattle.trace_port.specs.declared.resume.ResumeFault.TheVariants as resuming
use Rattle.script_runner.specs.declared.refusal.Refusal.{Refusal}
use Rattle.script_runner.specs.declared.refusal.Refusal.TheVariants as refusals
use Rattle.script_runner.specs.declared.fault.SimFault.{SimFault}
use Rattle.script_runner.specs.declared.fault.SimFault.TheVariants as faults
use Rattle.trace_reader.specs.declared.fault.ReadFault.{ReadFault}
use Rattle.trace_reader.specs.declared.fault.ReadFault.TheVariants as reads
use Rattle.trace_reader.specs.declared.fault.WipeFault.{WipeFault}
use Rattle.trace_reader.specs.declared.fault.WipeFault.TheVariants as wipes

-- a trace that isn't read, or not to its end
abbrev pub read_fault : ReadFault → SimFault
read_fault (reads.Refused cause) = faults.Refused (refusals.Recover cause)
read_fault (reads.Foreign file is_stream) = faults.Foreign file is_stream
read_fault reads.Absent = faults.Absent
read_fault reads.Write = faults.Write
read_fault reads.NoMemory = faults.NoMemory

-- a trace that isn't cleared
abbrev pub wipe_fault : WipeFault → SimFault
wipe_fault (wipes.Foreign file is_stream) = faults.Foreign file is_stream
wipe_fault wipes.Absent = faults.Absent
wipe_fault wipes.Device = faults.Refused refusals.Device

-- files disagree with one another
abbrev pub IsOfSeveral : Refusal → Type 0
IsOfSeveral (refusals.Recover recovering.Mixed) = Unit {0}
IsOfSeveral (refusals.Recover recovering.Sequence) = Unit {0}
IsOfSeveral (refusals.Resume (resuming.Recover recovering.Mixed)) = Unit {0}
IsOfSeveral (refusals.Resume (resuming.Recover recovering.Sequence)) = Unit {0}
IsOfSeveral _ = ⊥

-- what ends a run is that they do
abbrev pub IsFaultOfSeveral : SimFault → Type 0
IsFaultOfSeveral (faults.Refused refusal) = IsOfSeveral refusal
IsFaultOfSeveral _ = ⊥
