-- A stream that is listed in a style.
use Rattle.std.proofs.Common.{ℕ, List, Option, Result, Ok, Err}
use Rattle.std.specs.Prelude.{OnOk, IfErr, IfSome}
use Rattle.std.specs.Io.KnownBytes.{Appends}
use Rattle.trace_client.specs.Streams.{IsListed}
use Rattle.trace_client.specs.declared.stream.StreamStyle.{StreamStyle}
use Rattle.faults.specs.declared.complaint.Complaint.{Complaint}
use Rattle.commands.specs.Commands.{EndsStream}
use Rattle.commands.specs.Serving.{ListsIn}

-- it is listed to its end, or a fault is told
pub lists_in : (style : StreamStyle) (had : Option (List ℕ)) (result : Result Unit Complaint) (was now : Option (List ℕ)) → OnOk result (IfSome had (λ bytes. (text : List ℕ) × IsListed style bytes (Ok tt) text × Appends was now text)) → IfErr result (EndsStream style had was now)
    → ListsIn style had result was now
lists_in style had (Ok done) was now listed stopped = listed
lists_in style had (Err complaint) was now listed stopped = stopped
