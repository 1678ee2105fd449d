use Rattle.std.proofs.Common.{sym, subst}
use Rattle.import.specs.Incoming.{outside}
use Rattle.commands.specs.Commands.{Serves}
use Rattle.commands.proofs.commands.serve_trace.Goals as goal

pub returns-in-Record : goal.returns-in-Record
returns-in-Record g c =
    let contents = g.W.Write.contents in
    let observed = g.H.Host.observed in
    let call = c.record in
    let saw = outside (g.R.Read.remaining c.args.input) 0 (observed c.args.watched.now.host.now) in
    subst (λ request. Serves request c.args.shown.now c.args.files.now call.new.files saw (observed call.new.watched.host.now) (contents c.args.watched.now.writer.now) (contents call.new.watched.writer.now) call.result) (sym c.in-Record.is) call.ensures

pub returns-in-Import : goal.returns-in-Import
returns-in-Import g c =
    let contents = g.W.Write.contents in
    let observed = g.H.Host.observed in
    let call = c.import in
    let saw = outside (g.R.Read.remaining c.args.input) 0 (observed c.args.watched.now.host.now) in
    subst (λ request. Serves request c.args.shown.now c.args.files.now call.new.files saw (observed call.new.watched.host.now) (contents c.args.watched.now.writer.now) (contents call.new.watched.writer.now) call.result) (sym c.in-Import.is) call.ensures

pub returns-in-Salvage : goal.returns-in-Salvage
returns-in-Salvage g c =
    let contents = g.W.Write.contents in
    let observed = g.H.Host.observed in
    let call = c.salvage in
    let saw = outside (g.R.Read.remaining c.args.input) 0 (observed c.args.watched.now.host.now) in
    subst (λ request. Serves request c.args.shown.now c.args.files.now call.new.files saw (observed call.new.watched.host.now) (contents c.args.watched.now.writer.now) (contents call.new.watched.writer.now) call.result) (sym c.in-Salvage.is)
    (call.ensures.salvage.0, call.ensures.salvage.1, call.ensures.salvage.2, call.ensures.never, call.ensures.status)

pub returns-in-List : goal.returns-in-List
returns-in-List g c =
    let contents = g.W.Write.contents in
    let observed = g.H.Host.observed in
    let call = c.read_trace in
    let saw = outside (g.R.Read.remaining c.args.input) 0 (observed c.args.watched.now.host.now) in
    subst (λ request. Serves request c.args.shown.now c.args.files.now call.new.files saw (observed call.new.watched.host.now) (contents c.args.watched.now.writer.now) (contents call.new.watched.writer.now) call.result) (sym c.in-List.is)
    (c.style.result, c.style.ensures, call.ensures.read, call.ensures.place)
