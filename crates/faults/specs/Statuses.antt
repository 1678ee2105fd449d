-- The exit status of what was done, and of words that aren't a command line.
use Rattle.std.specs.Prelude.{ℕ, Result, Ok, Err}
use Rattle.clap.specs.Values.{kind_of}
use Rattle.clap.specs.declared.error.kind.ErrorKind.{ErrorKind}
use Rattle.clap.specs.declared.error.kind.ErrorKind.TheVariants as forms
use Rattle.command_line.specs.declared.request.Misuse.{Misuse}
use Rattle.command_line.specs.declared.request.Misuse.TheVariants as misuses
use Rattle.faults.specs.Complaints.{status_told}
use Rattle.faults.specs.declared.complaint.Complaint.{Complaint}

-- of what was done: 0 where it was, else that of the complaint
abbrev pub status_of_done : Result Unit Complaint → ℕ
status_of_done (Ok done) = 0
status_of_done (Err complaint) = status_told complaint

-- of words that aren't of the form that the help shows: 0 where they ask for help, 1 where there was no memory to know
abbrev pub status_of_form : ErrorKind → ℕ
status_of_form forms.DisplayHelp = 0
status_of_form forms.DisplayVersion = 0
status_of_form forms.OutOfMemory = 1
status_of_form _ = 2

-- of words that aren't a command line
abbrev pub status_of_misuse : Misuse → ℕ
status_of_misuse (misuses.Form error) = status_of_form (kind_of error)
status_of_misuse _ = 2
