use Rattle.std.proofs.Common.{Result, subst}
use Rattle.faults.specs.declared.complaint.Complaint.{Complaint}
use Rattle.prepared_requests.specs.Input.{ServesRecorded, over_recorded}
use Rattle.prepared_requests.proofs.input.record_and_serve.Goals as goal

pub returns : goal.returns
returns g c =
    let contents = g.W.Write.contents in
    let call = c.serve_recorded in
    let P : Result Unit Complaint → Type 0 = λ recorded. ServesRecorded g.world' recorded c.args.request c.args.shown (contents c.args.output.now) (contents call.new.output) call.result in
    over_recorded c.record.result c.record.ensures (subst P c.told-recorded.ensures call.ensures)
