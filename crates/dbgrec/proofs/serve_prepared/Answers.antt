use Rattle.std.proofs.Common.{sym, subst}
use Rattle.dbgrec.specs.Serving.{IsDone}
use Rattle.dbgrec.proofs.serve_prepared.Goals as goal

pub returns-in-Follow : goal.returns-in-Follow
returns-in-Follow g c =
    let contents = g.W.Write.contents in
    let call = c.follow_files in
    subst (λ request. IsDone g.world' request (g.I.Read.remaining c.args.input) (contents c.args.output.now) (contents call.new.output) call.result.0) (sym c.in-Follow.is) (call.result.1, call.ensures)

pub returns-in-Sim : goal.returns-in-Sim
returns-in-Sim g c =
    let contents = g.W.Write.contents in
    let call = c.serve_sim in
    subst (λ request. IsDone g.world' request (g.I.Read.remaining c.args.input) (contents c.args.output.now) (contents call.new.output) call.result) (sym c.in-Sim.is) call.ensures

pub returns-in-Stream : goal.returns-in-Stream
returns-in-Stream g c =
    let contents = g.W.Write.contents in
    let call = c.show in
    subst (λ request. IsDone g.world' request (g.I.Read.remaining c.args.input) (contents c.args.output.now) (contents call.new.output) call.result.0) (sym c.in-Stream.is) call.ensures

pub returns-in-OfTrace : goal.returns-in-OfTrace
returns-in-OfTrace g c =
    let contents = g.W.Write.contents in
    let call = c.serve_asked in
    subst (λ request. IsDone g.world' request (g.I.Read.remaining c.args.input) (contents c.args.output.now) (contents call.new.output) call.result) (sym c.in-OfTrace.is) call.ensures

pub returns-in-Listing : goal.returns-in-Listing
returns-in-Listing g c =
    let contents = g.W.Write.contents in
    let call = c.list_files in
    subst (λ request. IsDone g.world' request (g.I.Read.remaining c.args.input) (contents c.args.output.now) (contents call.new.output) call.result.0) (sym c.in-Listing.is) (call.result.1, call.ensures)
