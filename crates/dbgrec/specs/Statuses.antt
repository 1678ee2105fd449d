-- The exit status of the program.
use Rattle.std.specs.Prelude.{◌≡◌, ◌⊎◌, ℕ, Option, List, Result, Ok, Err}
use Rattle.stores.specs.Events.{World}
use Rattle.command_line.specs.declared.request.Request.{Request}
use Rattle.command_line.specs.declared.request.Misuse.{Misuse}
use Rattle.faults.specs.declared.complaint.Complaint.{Complaint}
use Rattle.faults.specs.Statuses.{status_of_done, status_of_misuse}
use Rattle.dbgrec.specs.Serving.{IsServed}

-- what is asked was done, and this is the status of it
abbrev pub EndsSo : World → Request → ℕ → Type 0
EndsSo world request status = (had was now : Option (List ℕ)) × (done : Result Unit Complaint) × IsServed world request had was now done × (status ≡ status_of_done done)

-- what the words ask was done, or they are no command line
abbrev pub Answers : World → Result Request Misuse → ℕ → Type 0
Answers world (Ok request) status = EndsSo world request status
Answers world (Err misuse) status = status ≡ status_of_misuse misuse

-- the status that the program ends with: of what some words ask, or 1 where there was no memory to ask
abbrev pub Ends : World → ℕ → Type 0
Ends world status = ((asked : Result Request Misuse) × Answers world asked status) ⊎ (status ≡ 1)
