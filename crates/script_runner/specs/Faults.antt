-- What a fault comes of.
use Rattle.std.specs.Prelude.{◌≡◌, ◌≢◌, ◌⊎◌, ℕ}
use Rattle.recovery.specs.declared.fault.RecoverFault.TheVariants as recovering
use Rattle.trace_port.specs.declared.create.CreateFault.TheVariants as creating
use Rattle.trace_port.specs.declared.resume.ResumeFault.TheVariants as resuming
use Rattle.trace_port.specs.declared.fault.PortFault.TheVariants as porting
use Rattle.script_runner.specs.declared.refusal.HandRefusal.TheVariants as handing
use Rattle.script_runner.specs.declared.refusal.Refusal.{Refusal}
use Rattle.script_runner.specs.declared.refusal.Refusal.TheVariants as refusals
use Rattle.trace_items.specs.declared.consumer.ConsumerFault.{ConsumerFault}
use Rattle.trace_items.specs.declared.consumer.ConsumerFault.TheVariants as listing
use Rattle.trace_client.specs.declared.fault.StreamFault.{StreamFault}
use Rattle.trace_client.specs.declared.fault.StreamFault.TheVariants as stream
use Rattle.script_lines.specs.declared.fault.ScriptFault.{ScriptFault}
use Rattle.script_lines.specs.declared.fault.ScriptFault.TheVariants as scripts
use Rattle.script_runner.specs.declared.fault.SimFault.{SimFault}
use Rattle.script_runner.specs.declared.fault.SimFault.TheVariants as faults

-- a device call failed
abbrev pub IsOfDevice : Refusal → Type 0
IsOfDevice refusals.Device = Unit {0}
IsOfDevice (refusals.Recover recovering.Device) = Unit {0}
IsOfDevice (refusals.Create creating.Device) = Unit {0}
IsOfDevice (refusals.Resume (resuming.Recover recovering.Device)) = Unit {0}
IsOfDevice (refusals.Port porting.Device) = Unit {0}
IsOfDevice (refusals.Hand (handing.Port porting.Device moved)) = Unit {0}
IsOfDevice _ = ⊥

-- what ends a run is that a device call failed
abbrev pub IsFaultOfDevice : SimFault → Type 0
IsFaultOfDevice (faults.Refused refusal) = IsOfDevice refusal
IsFaultOfDevice _ = ⊥

-- a listing that failed
abbrev pub fault_of_list : ConsumerFault → SimFault
fault_of_list listing.Write = faults.Write
fault_of_list listing.NoMemory = faults.NoMemory

-- the same fault of an entry stream, as a run has it
abbrev pub run_fault : StreamFault → SimFault
run_fault stream.Read = faults.Read
run_fault stream.Write = faults.Write
run_fault (stream.Truncated place) = faults.Truncated place
run_fault (stream.BadOp place) = faults.BadOp place
run_fault (stream.ZeroDrop place) = faults.ZeroDrop place
run_fault (stream.TooLong place) = faults.TooLong place
run_fault stream.NoMemory = faults.NoMemory

-- a stream that comes in ended it so, one that is imported too, or lack of memory for that
abbrev pub IsOfStream : SimFault → Type 0
IsOfStream fault = ((from : StreamFault) × (fault ≡ run_fault from) × (from ≢ stream.Write)) ⊎ ((place : ℕ) × (fault ≡ faults.BadMessage place))

-- a line that isn't had from a script
abbrev pub script_fault : ScriptFault → SimFault
script_fault (scripts.BadCommand line) = faults.BadCommand line
script_fault scripts.Read = faults.Read
script_fault scripts.TooLong = faults.Read
script_fault scripts.NoMemory = faults.NoMemory

-- the exit status of a run that it ended: 2 for a line that isn't a command
abbrev pub status_of : SimFault → ℕ
status_of (faults.BadCommand line) = 2
status_of _ = 1
