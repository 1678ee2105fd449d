use Rattle.std.proofs.Common.{subst}
use Rattle.std.proofs.KnownBytes.{Keeps-refl}
use Rattle.import.specs.Incoming.{outside}
use Rattle.commands.specs.declared.serving.Served.{Served}
use Rattle.commands.specs.Serving.{ServesTrace, served, no_files}
use Rattle.commands.proofs.serving.serve_files.Goals as goal

pub returns-in-Err : goal.returns-in-Err
returns-in-Err g c = no_files _ c.in-Err.ensures.refused (Keeps-refl _)

pub returns : goal.returns
returns g c =
    let contents = g.W.Write.contents in
    let had = g.I.Read.remaining c.args.input in
    let files = c.in-Ok.files in
    let call = c.do_over-done in
    let left : Served = record { files = call.new.files; observed = call.result.1 } in
    served files left c.in-Ok.ensures.made
    (subst (λ s. ServesTrace c.args.request c.args.shown files (outside had 0 s) call.new.files call.result.1.notes call.result.0 (contents c.args.output.now) (contents call.new.output)) c.console_for-console.ensures call.ensures)
