use Rattle.std.proofs.Common.{[], Some, ◌∙◌, refl, subst, sym}
use Rattle.std.proofs.KnownBytes.{Keeps-refl}
use Rattle.command_line.specs.declared.request.TraceRequest.{TraceRequest}
use Rattle.commands.specs.Serving.{ServesFiles}
use Rattle.prepared_requests.specs.Input.{served, not_recorded}
use Rattle.prepared_requests.proofs.input.serve_recorded.Goals as goal

pub returns-then-not-is_recorded : goal.returns-then-not-is_recorded
returns-then-not-is_recorded g c = not_recorded (sym c.is_err.ensures.value ∙ c.if-is_err.true) refl (Keeps-refl _)

pub returns : goal.returns
returns g c =
    let contents = g.W.Write.contents in
    let call = c.serve_files-done in
    let P : TraceRequest → Type 0 = λ request. ServesFiles g.world' request c.args.shown (Some []) (contents c.args.output.now) (contents call.new.output) call.result.0 call.result.1 in
    served call.result.0 call.result.1 (subst P c.over_recorded-request.ensures call.ensures) c.and.ensures
