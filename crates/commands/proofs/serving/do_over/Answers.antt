use Rattle.std.proofs.Common.{◌≡◌, subst, rules}
use Rattle.import.specs.Incoming.{outside}
use Rattle.commands.specs.Serving.{Does}
use Rattle.commands.proofs.serving.do_over.Goals as goal

pub returns : goal.returns
returns g c =
    let contents = g.W.Write.contents in
    let begun = c.new-watched.result in
    let call = c.do_with-done in
    let end = call.new.watched in
    let saw = outside (g.I.Read.remaining c.args.input) 0 in
    let seen : begun.host.now.observed.notes ≡ c.args.console.observed.notes = search rules in
    let begins : contents begun.writer.now ≡ contents c.args.output.now = search rules in
    let ends : contents end.writer.now ≡ contents c.taken.result = search rules in
    let observed = c.replace-observed.result.notes in
    let told : end.host.now.observed.notes ≡ observed = search rules in
    subst (λ now. Does c.args.task c.args.shown.now c.args.files.now (saw c.args.console.observed.notes) call.new.files observed call.result (contents c.args.output.now) now) ends
    (subst (λ was. Does c.args.task c.args.shown.now c.args.files.now (saw c.args.console.observed.notes) call.new.files observed call.result was (contents end.writer.now)) begins
    (subst (λ notes. Does c.args.task c.args.shown.now c.args.files.now (saw notes) call.new.files observed call.result (contents begun.writer.now) (contents end.writer.now)) seen
    (subst (λ notes. Does c.args.task c.args.shown.now c.args.files.now (saw begun.host.now.observed.notes) call.new.files notes call.result (contents begun.writer.now) (contents end.writer.now)) told call.ensures)))
