use Rattle.std.proofs.Common.{◌≡◌, subst, rules}
use Rattle.import.specs.Incoming.{outside}
use Rattle.commands.specs.Commands.{Serves}
use Rattle.prepared_requests.proofs.ahead_import.do_over.Goals as goal

pub returns : goal.returns
returns g c =
    let contents = g.W.Write.contents in
    let begun = c.new-watched.result in
    let call = c.serve_trace-done in
    let end = call.new.watched in
    let saw = outside (g.I.Read.remaining c.args.input) 0 in
    let seen : begun.host.now.observed.notes ≡ c.args.console.observed.notes = search rules in
    let begins : contents begun.writer.now ≡ contents c.args.output.now = search rules in
    let ends : contents end.writer.now ≡ contents c.taken.result = search rules in
    let observed = c.replace-observed.result.notes in
    let told : end.host.now.observed.notes ≡ observed = search rules in
    subst (λ now. Serves c.args.request c.args.shown.now c.args.files.now call.new.files (saw c.args.console.observed.notes) observed (contents c.args.output.now) now call.result) ends
    (subst (λ was. Serves c.args.request c.args.shown.now c.args.files.now call.new.files (saw c.args.console.observed.notes) observed was (contents end.writer.now) call.result) begins
    (subst (λ notes. Serves c.args.request c.args.shown.now c.args.files.now call.new.files (saw notes) observed (contents begun.writer.now) (contents end.writer.now) call.result) seen
    (subst (λ notes. Serves c.args.request c.args.shown.now c.args.files.now call.new.files (saw begun.host.now.observed.notes) notes (contents begun.writer.now) (contents end.writer.now) call.result) told call.ensures)))
