-- What an import does that passes over the rest of a message, by what is done with the files of its trace.
use Rattle.std.proofs.Common.{◌≡◌, ℕ, List, [], Some, Result, subst}
use Rattle.std.specs.Prelude.{Option}
use Rattle.std.specs.Fmt.{option_append}
use Rattle.std.specs.Io.KnownBytes.{Keeps}
use Rattle.stores.specs.Events.{World}
use Rattle.import.specs.Incoming.{outside}
use Rattle.trace_reader.specs.Observing.{Observations}
use Rattle.command_line.specs.declared.request.Rules.{Rules}
use Rattle.command_line.specs.declared.request.Shown.{Shown}
use Rattle.command_line.specs.declared.request.Wanted.{Wanted}
use Rattle.command_line.specs.declared.request.TraceRequest.TheVariants as asks
use Rattle.faults.specs.declared.complaint.Complaint.{Complaint}
use Rattle.commands.specs.Serving.{AreMade, ServesTrace, served}
use Rattle.commands.specs.declared.files.Files.{Files}
use Rattle.commands.specs.declared.serving.Served.{Served}
use Rattle.prepared_requests.specs.Ahead.{BeginsImport}
use Rattle.prepared_requests.specs.AheadImport.{ImportsFiles, imported}

-- files that are made for an import are those for one by other rules
made_for : (world : World) (wanted : Wanted) (rules begun : Rules) (files : Files) → AreMade world (asks.Import wanted rules) files → AreMade world (asks.Import wanted begun) files
made_for world wanted rules begun files made = record { past = made.past; locked = made.locked; free = made.free; place = made.place; agrees = made.agrees }

pub imported_by : (world : World) (wanted : Wanted) (rules begun : Rules) (shown : Shown) (had joined rest was now : Option (List ℕ)) (bytes : List ℕ) (result : Result Unit Complaint) (files : Files) (left : Served) (notes : Observations)
    → AreMade world (asks.Import wanted rules) files → BeginsImport rules rest bytes begun → joined ≡ option_append (Some bytes) rest → Keeps had joined → notes ≡ []
    → ServesTrace (asks.Import wanted begun) shown files (outside joined 0 notes) left.files left.observed.notes result was now → ImportsFiles world wanted rules shown had was now result (Some left)
imported_by world wanted rules begun shown had joined rest was now bytes result files left notes made begins is keeps none serves =
    imported begun bytes rest joined begins is keeps
    (served files left (made_for world wanted rules begun files made)
    (subst (λ (n : Observations). ServesTrace (asks.Import wanted begun) shown files (outside joined 0 n) left.files left.observed.notes result was now) none serves))
