use Rattle.std.proofs.Common.{◌≡◌, Result, Ok, ◌∙◌, subst, sym}
use Rattle.command_line.specs.declared.request.Rules.{Rules}
use Rattle.command_line.specs.declared.request.TraceRequest.TheVariants as requests
use Rattle.faults.specs.declared.complaint.Complaint.{Complaint}
use Rattle.prepared_requests.specs.Input.{IsStored, imported, nothing_came}
use Rattle.prepared_requests.proofs.Recorded.{well}
use Rattle.prepared_requests.proofs.input.record.Goals as goal

pub returns-then-is_err : goal.returns-then-is_err
returns-then-is_err g c =
    let wanted = c.wanted-wanted.result in
    let had = g.I.Read.remaining c.args.input in
    let call = c.store-imported in
    imported wanted c.wanted-wanted.ensures (subst (λ rules. IsStored g.world' (requests.Import wanted rules) had call.result) c.rules-rules.ensures call.ensures)

pub returns : goal.returns
returns g c =
    let wanted = c.wanted-wanted.result in
    let had = g.I.Read.remaining c.args.input in
    let call = c.store-imported in
    let ended : call.result ≡ Ok tt = well call.result (sym c.is_err.ensures.value ∙ c.if-is_err.false) in
    let P : Rules → Result Unit Complaint → Type 0 = λ rules result. IsStored g.world' (requests.Import wanted rules) had result in
    nothing_came wanted c.wanted-wanted.ensures (subst (λ rules. P rules (Ok tt)) c.rules-rules.ensures (subst (P c.rules-rules.result) ended call.ensures)) c.store.ensures
