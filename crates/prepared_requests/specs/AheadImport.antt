-- An import into the files of a trace, which passes over the rest of a message where it is to keep the trace open.
use Rattle.std.specs.Prelude.{◌≡◌, ℕ, Option, Some, None, List, Result, Err}
use Rattle.std.specs.Fmt.{option_append}
use Rattle.std.specs.Io.KnownBytes.{Keeps}
use Rattle.stores.specs.Events.{World}
use Rattle.command_line.specs.declared.request.Rules.{Rules}
use Rattle.command_line.specs.declared.request.Shown.{Shown}
use Rattle.command_line.specs.declared.request.Wanted.{Wanted}
use Rattle.command_line.specs.declared.request.TraceRequest.TheVariants as asks
use Rattle.faults.specs.Complaints.{status_told}
use Rattle.faults.specs.declared.complaint.Complaint.{Complaint}
use Rattle.commands.specs.Serving.{AreMade, ServesFiles}
use Rattle.commands.specs.declared.serving.Served.{Served}
use Rattle.prepared_requests.specs.Ahead.{BeginsImport, IsUnread}

-- An import was done as a request says that passes over all before the place that the bytes read ahead tell; or its input can't be
-- read, and no device call was made on its files; or none could be had. Nothing is written then.
pub data ImportsFiles (world : World) (wanted : Wanted) (rules : Rules) (shown : Shown) (had was now : Option (List ℕ)) : Result Unit Complaint → Option Served → Type 0 where
  imported : {result : Result Unit Complaint} {left : Option Served} (begun : Rules) (bytes : List ℕ) (rest joined : Option (List ℕ)) → BeginsImport rules rest bytes begun → joined ≡ option_append (Some bytes) rest → Keeps had joined
      → ServesFiles world (asks.Import wanted begun) shown joined was now result left → ImportsFiles world wanted rules shown had was now result left
  unread : (left : Served) (complaint : Complaint) → AreMade world (asks.Import wanted rules) left.files → IsUnread complaint → Keeps was now → ImportsFiles world wanted rules shown had was now (Err complaint) (Some left)
  no_files : (complaint : Complaint) → status_told complaint ≡ 1 → Keeps was now → ImportsFiles world wanted rules shown had was now (Err complaint) None
