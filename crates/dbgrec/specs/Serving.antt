-- What is done for the words of a command line.
use Rattle.std.specs.Prelude.{◌≡◌, ◌⊎◌, ℕ, Option, List, Result, Err}
use Rattle.std.specs.Io.KnownBytes.{Keeps}
use Rattle.stores.specs.Events.{World}
use Rattle.command_line.specs.declared.request.Request.{Request}
use Rattle.command_line.specs.declared.request.Request.TheVariants as requests
use Rattle.command_line.specs.declared.request.Shown.{Shown}
use Rattle.command_line.specs.declared.request.TraceRequest.{TraceRequest}
use Rattle.command_line.specs.declared.request.TraceRequest.TheVariants as asks
use Rattle.faults.specs.Complaints.{IsToldAs, status_told}
use Rattle.faults.specs.declared.complaint.Complaint.{Complaint}
use Rattle.script_runner.specs.declared.fault.SimFault.{SimFault}
use Rattle.simulator.specs.Simulated.{IsRun}
use Rattle.shown_listings.specs.Listings.{Shows}
use Rattle.commands.specs.Serving.{ServesFiles, ListsFiles, FollowsFiles, ListsStream}
use Rattle.commands.specs.declared.serving.Served.{Served}
use Rattle.prepared_requests.specs.AheadImport.{ImportsFiles}
use Rattle.prepared_requests.specs.Input.{ReadsInput, ServesInput}
use Rattle.prepared_requests.specs.NamesLooked.{IsPrepared}

-- what is asked of a trace was done, by the bytes that the input had
abbrev pub ServesTrace : World → TraceRequest → Shown → Option (List ℕ) → Option (List ℕ) → Option (List ℕ) → Result Unit Complaint → Type 0
ServesTrace world (asks.Import wanted rules) shown had was now result = (left : Option Served) × ImportsFiles world wanted rules shown had was now result left
ServesTrace world request shown had was now result = (left : Option Served) × ServesFiles world request shown had was now result left

-- or of the stream that comes in, where that is named in its place
abbrev pub ServesAsked : World → TraceRequest → Shown → Option (List ℕ) → Option (List ℕ) → Option (List ℕ) → Result Unit Complaint → Type 0
ServesAsked world request shown had was now result =
    (ReadsInput request × ServesInput world request shown had was now result) ⊎ ((ReadsInput request → ⊥) × ServesTrace world request shown had was now result)

-- what is asked was done as it is; the files, and what was observed, are let go of after that
abbrev pub IsDone : World → Request → Option (List ℕ) → Option (List ℕ) → Option (List ℕ) → Result Unit Complaint → Type 0
IsDone world requests.Sim had was now result = (done : Result Unit SimFault) × (has : Option (List ℕ)) × IsRun had has was now done × IsToldAs done result
IsDone world (requests.Stream is_pretty longest shown) had was now result = Shows shown (ListsStream is_pretty longest shown had) result was now
IsDone world (requests.OfTrace request shown) had was now result = ServesAsked world request shown had was now result
IsDone world (requests.Listing request shown) had was now result = (left : Option Served) × ListsFiles world request shown had was now result left
IsDone world (requests.Follow asked is_pretty shown) had was now result = (left : Option Served) × FollowsFiles world asked is_pretty shown was now result left

-- what is asked was done, of the processes that had the names in it; or there was no memory to look these up, and nothing is written
pub data IsServed (world : World) (request : Request) (had was now : Option (List ℕ)) : Result Unit Complaint → Type 0 where
  done : {result : Result Unit Complaint} (later : Request) → IsPrepared world request later → IsDone world later had was now result → IsServed world request had was now result
  unprepared : (complaint : Complaint) → status_told complaint ≡ 1 → Keeps was now → IsServed world request had was now (Err complaint)
