use Rattle.std.proofs.Common.{rules, [], ◌≡◌, refl, sym, subst, ap, ◌∙◌}
use Rattle.std.proofs.lemmas.Result.{err_from_is_err_and}
use Rattle.tracees.specs.Books.{plain_totals}
use Rattle.trace_port.specs.Effects.{no_effect}
use Rattle.trace_port.specs.PortCalls.{Finishes}
use Rattle.script_runner.specs.declared.answer.Answer.TheVariants.{Done}
use Rattle.script_lines.specs.declared.line.Line.TheVariants as lines
use Rattle.script_runner.specs.declared.reply.Reply.TheVariants.{Told as Answered}
use Rattle.script_runner.specs.Sides.{Alone, AtDesk, desk_seen, new_side}
use Rattle.script_runner.specs.Asked.{comes_to_desk}
use Rattle.script_runner.specs.Held.{IsLetGo, IsAtDesk}
use Rattle.script_runner.proofs.Written.{new_desk}
use Rattle.script_runner.proofs.Through.{reads_none, reads_on, failed_behind, ran_on, ran_to_end, ran_from_new}
use Rattle.script_runner.proofs.port_lines.take_to_desk.Goals as goal

pub returns-in_err-tell : goal.returns-in_err-tell
returns-in_err-tell g c =
    record {
      run = record {
        name = c.in_err-tell.ensures.name;
        of_desk = refl;
        reader = refl;
        did = record {
          same = search rules;
          did = λ from next.
              let told = g.P.TracePort.told in
              let p = c.args.port.now in
              let back : c.port-1.given.0 ≡ c.drop-desk.new.self.0 = search rules in
              let finished = subst (λ q. Finishes (told p) (told q)) (sym back) (subst (λ q. Finishes (told q) (told c.drop-desk.new.self.0)) c.new-desk.ensures.port c.drop-desk.ensures.finishes) in
              let e = err_from_is_err_and c.from_residual.result c.from_residual.ensures.1 in
              rw (e.1, e.2, c.in_err-tell.ensures.fault) (failed_behind told (Alone p) (Alone p) (AtDesk (new_side p)) (λ end. IsLetGo told end c.port-1.given.0) lines.Desk (Answered Done) Done _ _ _ c.args.script.now.is_of_desk _ from from _
              (reads_none told (Alone p) (g.W.Write.contents c.args.answers.now.writer.now) c.args.script.now.is_of_desk c.args.files from) (no_effect, comes_to_desk) refl finished next tt c.in_err-tell.ensures.cut);
        };
      };
    }

pub returns : goal.returns
returns g c =
    record {
      run = record {
        name = c.run_desk.ensures.run.name ∙ c.in_ok-tell.ensures.name;
        of_desk = c.run_desk.ensures.run.of_desk;
        reader = c.run_desk.ensures.run.reader;
        did = record {
          same = search rules;
          did = λ from next.
              let told = g.P.TracePort.told in
              let p = c.args.port.now in
              let back : c.port-2-1.given.0 ≡ c.drop-desk-2.new.self.0 = search rules in
              let end = c.run_desk.new.desk in
              let first = desk_seen g.P.TracePort c.new-desk.result in
              let made = c.new-desk.ensures in
              let begun = new_desk p first made.number made.port (ap plain_totals made.book ∙ c.new.ensures.totals) (ap (λ b. b.attached) made.book ∙ c.new.ensures.attached) in
              let finished = subst (λ q. Finishes (told end.port.now) (told q)) (sym back) c.drop-desk-2.ensures.finishes in
              ran_on told (Alone p) (AtDesk (new_side p)) c.run_desk.result (λ end. IsLetGo told end c.port-2-1.given.0) _ _ _ c.args.script.now.is_of_desk c.args.files from _ _
              (reads_on told (Alone p) (Alone p) (AtDesk (new_side p)) lines.Desk (Answered Done) Done _ _ _ c.args.script.now.is_of_desk c.args.files from from _ (reads_none told (Alone p) _ c.args.script.now.is_of_desk c.args.files from) (no_effect, comes_to_desk) refl next tt c.in_ok-tell.ensures.text)
              (ran_to_end told (AtDesk (new_side p)) c.args.files _ c.run_desk.result (desk_seen g.P.TracePort end) c.port-2-1.given.0 [] _ finished
              (ran_from_new told p first c.args.files _ c.run_desk.result (IsAtDesk (desk_seen g.P.TracePort end)) [] _ begun c.run_desk.ensures.run.did.did));
        };
      };
    }
