-- Where the files of a trace are, by what the command line asks.
use Rattle.std.specs.Prelude.{◌≡◌, ◌≢◌, ◌⊎◌, ℕ, Option, Some, Result, IfOk, IfErr}
use Rattle.std.specs.String.{string_bytes}
use Rattle.command_line.specs.declared.request.Asked.{Asked}
use Rattle.command_line.specs.declared.request.TraceRequest.{TraceRequest}
use Rattle.command_line.specs.declared.request.TraceRequest.TheVariants as requests
use Rattle.faults.specs.Complaints.{status_told}
use Rattle.faults.specs.declared.complaint.Complaint.{Complaint}
use Rattle.commands.specs.declared.files.Files.{Files}
use Rattle.faults.specs.declared.complaint.Complaint.TheVariants as complaints
use Rattle.trace_lookup.specs.Finding.{count_in, IsFound, IsPlaceFor, AreNames}
use Rattle.commands.specs.Telling.{IsOfMemory}
use Rattle.trace_lookup.specs.declared.lookup.Found.{Found}
use Rattle.stores.specs.FolderStore.{past_of}

-- what a request says of where its trace is
abbrev pub asked_in : TraceRequest → Asked
asked_in (requests.Record wanted) = wanted.asked
asked_in (requests.Import wanted rules) = wanted.asked
asked_in (requests.List asked is_pretty) = asked
asked_in (requests.Export asked) = asked
asked_in (requests.Fold asked) = asked
asked_in (requests.Draw asked) = asked
asked_in (requests.Salvage asked form) = asked
asked_in (requests.Info asked is_json) = asked
asked_in (requests.Top asked ranking is_json) = asked
asked_in (requests.Wipe asked is_forced) = asked

-- files in the place of what is asked, by what was found of it; the store is over those of that place's names
pub record IsAt (asked : Asked) (found : Found) (files : Files) : Type 0 where
  pub found_is : files.found ≡ found
  pub place : IsPlaceFor asked found files.place
  pub names : AreNames files.place (past_of files.store).names

-- the same of something that may be found where that is asked
pub record IsAtPlace (asked : Asked) (files : Files) : Type 0 where
  pub found : Found
  pub may_be : IsFound asked.shape found
  pub at : IsAt asked found files

-- a count that is asked for is the trace's own, where its files tell one
abbrev pub Agree : Option ℕ → Option ℕ → Type 0
Agree (Some own) (Some given) = own ≡ given
Agree own given = Unit {0}

abbrev pub AgreesOn : Asked → Found → Type 0
AgreesOn asked found = Agree (count_in found) asked.count

-- it isn't, and both are told, with the name that is asked for
abbrev pub TellsCounts : Asked → Found → Complaint → Type 0
TellsCounts asked found (complaints.Differs name given own) =
    (own ≢ given) × (asked.count ≡ Some given) × (count_in found ≡ Some own) × (string_bytes name ≡ asked.base.now)
TellsCounts asked found complaint = ⊥

-- what is told where the counts of what is asked and of what is found aren't one, also where there is no memory for that
abbrev pub IsOfCounts : Asked → Found → Complaint → Type 0
IsOfCounts asked found complaint = TellsCounts asked found complaint ⊎ ((AgreesOn asked found → ⊥) × IsOfMemory complaint)

-- the same of something that may be found there; or there was no memory to look for it
abbrev pub IsWhyNotFound : Asked → Complaint → Type 0
IsWhyNotFound asked complaint = ((found : Found) × IsFound asked.shape found × IsOfCounts asked found complaint) ⊎ IsOfMemory complaint

-- what is asked names a trace that is there, and not one to be written
abbrev pub NamesTrace : TraceRequest → Type 0
NamesTrace (requests.Record wanted) = ⊥
NamesTrace (requests.Import wanted rules) = ⊥
NamesTrace _ = Unit {0}

-- files that stand so where that is asked, or why there are none
pub record HasFiles (Stand : Files → Type 0) (asked : Asked) (result : Result Files Complaint) : Type 0 where
  pub stand : IfOk result Stand
  pub place : IfOk result (IsAtPlace asked)
  pub refused : IfErr result (λ complaint. status_told complaint ≡ 1)
