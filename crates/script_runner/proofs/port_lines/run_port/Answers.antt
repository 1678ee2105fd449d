use Rattle.std.proofs.Common.{refl, subst, ◌∙◌}
use Rattle.std.proofs.lemmas.Result.{err_from_is_err_and}
use Rattle.std.specs.Io.KnownBytes.{Appends}
use Rattle.trace_client.specs.Output.{AppendsPrefix}
use Rattle.script_runner.specs.declared.answer.Answer.{Answer}
use Rattle.script_runner.specs.Texts.{line_of, greeting}
use Rattle.script_runner.specs.Sides.{Alone}
use Rattle.script_runner.specs.Held.{IsLetGo}
use Rattle.script_runner.proofs.Through.{not_greeted, ran_behind}
use Rattle.script_runner.proofs.port_lines.run_port.Goals as goal

pub returns-in_err-tell : goal.returns-in_err-tell
returns-in_err-tell g c =
    record {
      run = let told = g.P.TracePort.told in
          let start = g.W.Write.contents c.args.answers.now.writer.now in
          let before = g.W.Write.contents c.tell.new.self.writer.now in
          let p = err_from_is_err_and c.from_residual.result c.from_residual.ensures.1 in
          record {
            name = c.in_err-tell.ensures.name;
            of_desk = refl;
            reader = refl;
            did = record {
              same = refl;
              did = rw (p.1, p.2, c.in_err-tell.ensures.fault) (not_greeted told (Alone c.args.port.now) (λ end. IsLetGo told end c.args.port.now) (line_of (greeting c.args.origin (told c.args.port.now).total)) start before c.args.script.now.is_of_desk c.args.files _ _ refl refl
                  (subst (λ (a : Answer). AppendsPrefix start before (line_of a)) c.greet.ensures c.in_err-tell.ensures.cut));
            };
          };
    }

pub returns : goal.returns
returns g c =
    record {
      run = let told = g.P.TracePort.told in
          let start = g.W.Write.contents c.args.answers.now.writer.now in
          let before = g.W.Write.contents c.tell.new.self.writer.now in
          record {
            name = c.take_lines.ensures.run.name ∙ c.in_ok-tell.ensures.name;
            of_desk = c.take_lines.ensures.run.of_desk;
            reader = c.take_lines.ensures.run.reader;
            did = record {
              same = c.take_lines.ensures.run.did.same;
              did = ran_behind told (Alone c.args.port.now) c.args.files _ c.take_lines.result (λ end. IsLetGo told end c.take_lines.new.port) start before _ (line_of (greeting c.args.origin (told c.args.port.now).total))
                  (subst (λ (a : Answer). Appends start before (line_of a)) c.greet.ensures c.in_ok-tell.ensures.text) c.take_lines.ensures.run.did.did;
            };
          };
    }
