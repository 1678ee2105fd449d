-- What is done for a request that reads an entry stream in the place of a trace.
use Rattle.std.specs.Prelude.{◌≡◌, ℕ, Option, Some, None, List, [], Result, Ok, Err, IsErr}
use Rattle.std.specs.Result.{result_and}
use Rattle.std.specs.Io.KnownBytes.{Keeps}
use Rattle.stores.specs.Events.{World}
use Rattle.command_line.specs.Inputs.{IsInput}
use Rattle.command_line.specs.declared.request.Form.TheVariants as written
use Rattle.command_line.specs.declared.request.Ending.TheVariants.{Seal}
use Rattle.command_line.specs.declared.request.Flushing.TheVariants.{Never}
use Rattle.command_line.specs.declared.request.Rules.{Rules}
use Rattle.command_line.specs.declared.request.Shown.{Shown}
use Rattle.command_line.specs.declared.request.TraceRequest.{TraceRequest}
use Rattle.command_line.specs.declared.request.TraceRequest.TheVariants as requests
use Rattle.command_line.specs.declared.request.Wanted.{Wanted}
use Rattle.faults.specs.Complaints.{status_told}
use Rattle.faults.specs.declared.complaint.Advice.TheVariants as advices
use Rattle.faults.specs.declared.complaint.Complaint.{Complaint}
use Rattle.faults.specs.declared.complaint.Complaint.TheVariants as complaints
use Rattle.commands.specs.Serving.{ServesFiles}
use Rattle.commands.specs.declared.serving.Served.{Served}

-- a request to read a trace in whose place an entry stream is named
abbrev pub ReadsInput : TraceRequest → Type 0
ReadsInput (requests.List asked is_pretty) = IsInput asked
ReadsInput (requests.Export asked) = IsInput asked
ReadsInput (requests.Fold asked) = IsInput asked
ReadsInput (requests.Draw asked) = IsInput asked
ReadsInput (requests.Salvage asked form) = IsInput asked
ReadsInput (requests.Info asked is_json) = IsInput asked
ReadsInput (requests.Top asked ranking is_json) = IsInput asked
ReadsInput _ = ⊥

-- an import of all that comes
abbrev pub all_rules : Rules
all_rules = record { skip = 0; longest = 268435456; flushing = Never; ending = Seal }

-- what is asked of the trace that a stream was recorded as: in the place of a salvage, the whole
abbrev pub of_recorded : TraceRequest → TraceRequest
of_recorded (requests.Salvage asked written.Stream) = requests.Export asked
of_recorded (requests.Salvage asked (written.Lines is_pretty)) = requests.List asked is_pretty
of_recorded request = request

-- what is told of a fault of the recording: not how an import goes on
abbrev pub told_of_input : Complaint → Complaint
told_of_input (complaints.Fault fault (Some (advices.GoesOn kept))) = complaints.Fault fault None
told_of_input (complaints.Fault fault (Some (advices.DiskFailed kept))) = complaints.Fault fault None
told_of_input (complaints.Fault fault (Some (advices.Full kept))) = complaints.Fault fault None
told_of_input complaint = complaint

-- and of how it ended
abbrev pub told_recorded : Result Unit Complaint → Result Unit Complaint
told_recorded (Ok done) = Ok done
told_recorded (Err complaint) = Err (told_of_input complaint)

-- a request that writes a trace was served, by the bytes that the input had; what it told is let go of
pub record IsStored (world : World) (request : TraceRequest) (had : Option (List ℕ)) (result : Result Unit Complaint) : Type 0 where
  pub shown : Shown
  pub was : Option (List ℕ)
  pub now : Option (List ℕ)
  pub left : Option Served
  pub serves : ServesFiles world request shown had was now result left

-- an input was recorded, as a trace of the same name
pub data WasRecorded (world : World) (had : Option (List ℕ)) : Result Unit Complaint → Type 0 where
  imported : {result : Result Unit Complaint} (wanted : Wanted) → IsInput wanted.asked → IsStored world (requests.Import wanted all_rules) had result → WasRecorded world had result
  -- no byte came, and so a trace without an entry was made
  nothing_came : {result : Result Unit Complaint} (wanted : Wanted) → IsInput wanted.asked → IsStored world (requests.Import wanted all_rules) had (Ok tt) → IsStored world (requests.Record wanted) (Some []) result
      → WasRecorded world had result

-- what is asked was done with what was recorded, and the first fault is told; or the fault of the recording alone is, and nothing is written
pub data ServesRecorded (world : World) (recorded : Result Unit Complaint) (request : TraceRequest) (shown : Shown) (was now : Option (List ℕ)) : Result Unit Complaint → Type 0 where
  served : {result : Result Unit Complaint} (done : Result Unit Complaint) (left : Option Served) → ServesFiles world (of_recorded request) shown (Some []) was now done left → result ≡ result_and recorded done
      → ServesRecorded world recorded request shown was now result
  not_recorded : {result : Result Unit Complaint} → IsErr recorded → result ≡ recorded → Keeps was now → ServesRecorded world recorded request shown was now result

-- an input that had these bytes was recorded, and then what is asked was done so; or there is no folder for that, and nothing is written
pub data ServesInput (world : World) (request : TraceRequest) (shown : Shown) (had was now : Option (List ℕ)) : Result Unit Complaint → Type 0 where
  over_recorded : {result : Result Unit Complaint} (recorded : Result Unit Complaint) → WasRecorded world had recorded → ServesRecorded world (told_recorded recorded) request shown was now result
      → ServesInput world request shown had was now result
  no_folder : (complaint : Complaint) → status_told complaint ≡ 1 → Keeps was now → ServesInput world request shown had was now (Err complaint)
