use Rattle.std.proofs.Common.{refl, subst, ◌∙◌, Bool, rules}
use Rattle.std.proofs.lemmas.Result.{err_from_is_err_and}
use Rattle.script_lines.specs.Reading.{progress}
use Rattle.script_lines.specs.declared.line.Line.TheVariants as lines
use Rattle.script_lines.specs.declared.fault.ScriptFault.TheVariants as scripts
use Rattle.script_runner.specs.Sides.{Alone}
use Rattle.script_runner.specs.Held.{IsLetGo}
use Rattle.script_runner.specs.Read.{IsNoLine, IsBrokenOff}
use Rattle.script_runner.proofs.Through.{reads_none, reads_on, line_comes, none_comes, none_read, ran_through, left_through, failed_through, failed_behind, ran_after}
use Rattle.script_runner.proofs.port_lines.take_lines.Goals as goal

pub loop-line-init : goal.loop-line-init
loop-line-init g c = record { same = refl; name = refl; of_desk = refl; reader = refl; run = reads_none g.P.TracePort.told (Alone c.args.port.now) (g.W.Write.contents c.args.answers.now.writer.now) c.args.script.now.is_of_desk _ _ }

pub returns-in_err-line : goal.returns-in_err-line
returns-in_err-line g c =
    record {
      run = let told = g.P.TracePort.told in
          let was = progress c.loop-line.script.number (g.R.Read.remaining c.loop-line.script.reader.now) in
          let is = progress c.next_line.new.script.number (g.R.Read.remaining c.next_line.new.script.reader.now) in
          let p = err_from_is_err_and c.from_residual.result c.from_residual.ensures.1 in
          record {
            name = c.loop-line.invariant.name;
            of_desk = c.next_line.ensures.of_desk ∙ c.loop-line.invariant.of_desk;
            reader = c.next_line.ensures.reader ∙ c.loop-line.invariant.reader;
            did = record {
              same = c.loop-line.invariant.same;
              did = rw (p.1, p.2) (failed_through told (Alone c.args.port.now) (Alone c.loop-line.port) (λ end. IsLetGo told end c.loop-line.port) _ _ _ c.args.script.now.is_of_desk _ _ _ _ c.loop-line.invariant.run refl
                  (IsBrokenOff.no_line (subst (λ (d : Bool). IsNoLine d c.args.files was is c.in_err-line.field-0.0) c.loop-line.invariant.of_desk c.in_err-line.ensures.next)));
            };
          };
    }

pub returns-in_default : goal.returns-in_default
returns-in_default g c =
    record {
      run = let told = g.P.TracePort.told in
          record {
            name = c.loop-line.invariant.name;
            of_desk = c.next_line.ensures.of_desk ∙ c.loop-line.invariant.of_desk;
            reader = c.next_line.ensures.reader ∙ c.loop-line.invariant.reader;
            did = record {
              same = c.loop-line.invariant.same;
              did = ran_through told (Alone c.args.port.now) (Alone c.loop-line.port) (λ end. IsLetGo told end c.loop-line.port) _ _ c.args.script.now.is_of_desk _ _ _ _ c.loop-line.invariant.run refl
                  (none_comes c.loop-line.script.is_of_desk _ _ _ _ (search rules) c.in_ok-line.ensures.next);
            };
          };
    }

pub returns-then-is_desk : goal.returns-then-is_desk
returns-then-is_desk g c =
    record {
      run = let told = g.P.TracePort.told in
          let comes = line_comes c.args.script.now.is_of_desk c.loop-line.script.is_of_desk _ _ _ _ _ c.loop-line.invariant.of_desk c.in-Some.is c.in_ok-line.ensures.next in
          record {
            name = c.take_to_desk.ensures.run.name ∙ c.loop-line.invariant.name;
            of_desk = c.take_to_desk.ensures.run.of_desk ∙ c.next_line.ensures.of_desk ∙ c.loop-line.invariant.of_desk;
            reader = c.take_to_desk.ensures.run.reader ∙ c.next_line.ensures.reader ∙ c.loop-line.invariant.reader;
            did = record {
              same = c.take_to_desk.ensures.run.did.same ∙ c.loop-line.invariant.same;
              did = ran_after told (Alone c.args.port.now) (Alone c.loop-line.port) c.take_to_desk.result (λ end. IsLetGo told end c.take_to_desk.new.port) _ _ _ c.args.script.now.is_of_desk c.next_line.new.script.is_of_desk _ _ _ _ _ _ lines.Desk (c.next_line.ensures.of_desk ∙ c.loop-line.invariant.of_desk)
                  (c.is_desk.ensures.desk c.if-is_desk.true) c.loop-line.invariant.run comes.0 c.take_to_desk.ensures.run.did.did;
            };
          };
    }

pub returns-in_err-tell-in-Told : goal.returns-in_err-tell-in-Told
returns-in_err-tell-in-Told g c =
    record {
      run = let told = g.P.TracePort.told in
          let comes = line_comes c.args.script.now.is_of_desk c.loop-line.script.is_of_desk _ _ _ _ _ c.loop-line.invariant.of_desk c.in-Some.is c.in_ok-line.ensures.next in
          let p = err_from_is_err_and c.from_residual-in_err-tell-in-Told.result c.from_residual-in_err-tell-in-Told.ensures.1 in
          record {
            name = c.in_err-tell-in-Told.ensures.name ∙ c.loop-line.invariant.name;
            of_desk = c.next_line.ensures.of_desk ∙ c.loop-line.invariant.of_desk;
            reader = c.next_line.ensures.reader ∙ c.loop-line.invariant.reader;
            did = record {
              same = c.ask_owned.ensures.step.same ∙ c.loop-line.invariant.same;
              did = rw (p.1, p.2, c.in_err-tell-in-Told.ensures.fault) (failed_behind told (Alone c.args.port.now) (Alone c.loop-line.port) (Alone c.ask_owned.new.port) (λ end. IsLetGo told end c.ask_owned.new.port)
                  _ c.ask_owned.result c.in-Told.answer _ _ _ c.args.script.now.is_of_desk _ _ _ _ c.loop-line.invariant.run c.ask_owned.ensures.step.did c.in-Told.is refl comes.0 comes.1 c.in_err-tell-in-Told.ensures.cut);
            };
          };
    }

pub returns-in-Left : goal.returns-in-Left
returns-in-Left g c =
    record {
      run = let told = g.P.TracePort.told in
          let comes = line_comes c.args.script.now.is_of_desk c.loop-line.script.is_of_desk _ _ _ _ _ c.loop-line.invariant.of_desk c.in-Some.is c.in_ok-line.ensures.next in
          record {
            name = c.loop-line.invariant.name;
            of_desk = c.next_line.ensures.of_desk ∙ c.loop-line.invariant.of_desk;
            reader = c.next_line.ensures.reader ∙ c.loop-line.invariant.reader;
            did = record {
              same = c.ask_owned.ensures.step.same ∙ c.loop-line.invariant.same;
              did = left_through told (Alone c.args.port.now) (Alone c.loop-line.port) (Alone c.ask_owned.new.port) (λ end. IsLetGo told end c.ask_owned.new.port)
                  _ c.ask_owned.result c.in-Left.leave _ _ c.args.script.now.is_of_desk _ _ _ _ c.loop-line.invariant.run c.ask_owned.ensures.step.did c.in-Left.is refl comes.0 comes.1;
            };
          };
    }

pub loop-line-preserved : goal.loop-line-preserved
loop-line-preserved g c =
    let comes = line_comes c.args.script.now.is_of_desk c.loop-line.script.is_of_desk _ _ _ _ _ c.loop-line.invariant.of_desk c.in-Some.is c.in_ok-line.ensures.next in
    record {
      same = c.ask_owned.ensures.step.same ∙ c.loop-line.invariant.same;
      name = c.in_ok-tell-in-Told.ensures.name ∙ c.loop-line.invariant.name;
      of_desk = c.next_line.ensures.of_desk ∙ c.loop-line.invariant.of_desk;
      reader = c.next_line.ensures.reader ∙ c.loop-line.invariant.reader;
      run = reads_on g.P.TracePort.told (Alone c.args.port.now) (Alone c.loop-line.port) (Alone c.ask_owned.new.port)
          _ c.ask_owned.result c.in-Told.answer _ _ _ c.args.script.now.is_of_desk _ _ _ _ c.loop-line.invariant.run c.ask_owned.ensures.step.did c.in-Told.is comes.0 comes.1 c.in_ok-tell-in-Told.ensures.text;
    }

pub returns : goal.returns
returns g c =
    record {
      run = let told = g.P.TracePort.told in
          record {
            name = c.loop-line.invariant.name;
            of_desk = c.loop-line.invariant.of_desk;
            reader = c.loop-line.invariant.reader;
            did = record {
              same = c.loop-line.invariant.same;
              did = failed_through told (Alone c.args.port.now) (Alone c.loop-line.port) (λ end. IsLetGo told end c.loop-line.port) _ _ _ c.args.script.now.is_of_desk _ _ _ _
                  c.loop-line.invariant.run refl (IsBrokenOff.no_line (IsNoLine.not_given scripts.Read (none_read c.args.script.now.is_of_desk _)));
            };
          };
    }
