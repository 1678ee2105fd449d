use Rattle.std.proofs.Common.{map, refl, ap, subst, ◌∙◌, Bool, rules}
use Rattle.std.proofs.lemmas.Result.{err_from_is_err_and}
use Rattle.script_lines.specs.Reading.{progress}
use Rattle.script_lines.specs.declared.fault.ScriptFault.TheVariants as scripts
use Rattle.script_runner.specs.Sides.{AtDesk, first_side, desk_seen, seat_seen, side_seen}
use Rattle.script_runner.specs.Held.{IsAtDesk}
use Rattle.script_runner.specs.Read.{IsNoLine, IsBrokenOff}
use Rattle.script_runner.proofs.Through.{reads_none_there, reads_on, line_comes, none_comes, none_read, ran_through, left_through, failed_through, failed_behind}
use Rattle.script_runner.proofs.desk_lines.run_desk.Goals as goal

pub loop-line-init : goal.loop-line-init
loop-line-init g c =
    let attached = c.new-attached.result in
    record {
      name = refl;
      same = refl;
      first = refl;
      writer = refl;
      of_desk = refl;
      reader = refl;
      run = reads_none_there g.P.TracePort.told (desk_seen g.P.TracePort c.args.desk.now) attached.moment (map seat_seen attached.traced.items) (g.W.Write.contents c.args.answers.now.writer.now) c.args.script.now.is_of_desk _ _
          c.new-attached.ensures.moment (ap (map seat_seen) c.new-attached.ensures.none);
    }

pub returns-in_err-line : goal.returns-in_err-line
returns-in_err-line g c =
    record {
      run = let told = g.P.TracePort.told in
          let first = AtDesk (first_side (desk_seen g.P.TracePort c.args.desk.now)) in
          let was = progress c.loop-line.script.number (g.R.Read.remaining c.loop-line.script.reader.now) in
          let is = progress c.next_line.new.script.number (g.R.Read.remaining c.next_line.new.script.reader.now) in
          let p = err_from_is_err_and c.from_residual.result c.from_residual.ensures.1 in
          record {
            name = c.loop-line.invariant.writer;
            of_desk = c.next_line.ensures.of_desk ∙ c.loop-line.invariant.of_desk;
            reader = c.next_line.ensures.reader ∙ c.loop-line.invariant.reader;
            did = record {
              name = c.loop-line.invariant.name;
              same = c.loop-line.invariant.same;
              first = c.loop-line.invariant.first;
              did = rw (p.1, p.2) (failed_through told first (AtDesk (side_seen g.P.TracePort c.loop-line.desk c.loop-line.attached)) (IsAtDesk (desk_seen g.P.TracePort c.loop-line.desk)) _ _ _ c.args.script.now.is_of_desk _ _ _ _ c.loop-line.invariant.run refl
                  (IsBrokenOff.no_line (subst (λ (d : Bool). IsNoLine d c.args.files was is c.in_err-line.field-0.0) c.loop-line.invariant.of_desk c.in_err-line.ensures.next)));
            };
          };
    }

pub returns-in_default : goal.returns-in_default
returns-in_default g c =
    record {
      run = record {
        name = c.loop-line.invariant.writer;
        of_desk = c.next_line.ensures.of_desk ∙ c.loop-line.invariant.of_desk;
        reader = c.next_line.ensures.reader ∙ c.loop-line.invariant.reader;
        did = record {
          name = c.loop-line.invariant.name;
          same = c.loop-line.invariant.same;
          first = c.loop-line.invariant.first;
          did = ran_through g.P.TracePort.told (AtDesk (first_side (desk_seen g.P.TracePort c.args.desk.now))) (AtDesk (side_seen g.P.TracePort c.loop-line.desk c.loop-line.attached)) (IsAtDesk (desk_seen g.P.TracePort c.loop-line.desk)) _ _ c.args.script.now.is_of_desk _ _ _ _ c.loop-line.invariant.run refl
              (none_comes c.loop-line.script.is_of_desk _ _ _ _ (search rules) c.in_ok-line.ensures.next);
        };
      };
    }

pub returns-in_err-tell-in-Told : goal.returns-in_err-tell-in-Told
returns-in_err-tell-in-Told g c =
    record {
      run = let comes = line_comes c.args.script.now.is_of_desk c.loop-line.script.is_of_desk _ _ _ _ _ c.loop-line.invariant.of_desk c.in-Some.is c.in_ok-line.ensures.next in
          let p = err_from_is_err_and c.from_residual-in_err-tell-in-Told.result c.from_residual-in_err-tell-in-Told.ensures.1 in
          record {
            name = c.in_err-tell-in-Told.ensures.name ∙ c.loop-line.invariant.writer;
            of_desk = c.next_line.ensures.of_desk ∙ c.loop-line.invariant.of_desk;
            reader = c.next_line.ensures.reader ∙ c.loop-line.invariant.reader;
            did = record {
              name = c.ask_owned.ensures.step.name ∙ c.loop-line.invariant.name;
              same = c.ask_owned.ensures.step.same ∙ c.loop-line.invariant.same;
              first = c.ask_owned.ensures.step.first ∙ c.loop-line.invariant.first;
              did = rw (p.1, p.2, c.in_err-tell-in-Told.ensures.fault) (failed_behind g.P.TracePort.told (AtDesk (first_side (desk_seen g.P.TracePort c.args.desk.now))) (AtDesk (side_seen g.P.TracePort c.loop-line.desk c.loop-line.attached)) (AtDesk (side_seen g.P.TracePort c.ask_owned.new.desk c.ask_owned.new.attached)) (IsAtDesk (desk_seen g.P.TracePort c.ask_owned.new.desk))
                  _ c.ask_owned.result c.in-Told.answer _ _ _ c.args.script.now.is_of_desk _ _ _ _ c.loop-line.invariant.run c.ask_owned.ensures.step.did c.in-Told.is refl comes.0 comes.1 c.in_err-tell-in-Told.ensures.cut);
            };
          };
    }

pub returns-in-Left : goal.returns-in-Left
returns-in-Left g c =
    record {
      run = let comes = line_comes c.args.script.now.is_of_desk c.loop-line.script.is_of_desk _ _ _ _ _ c.loop-line.invariant.of_desk c.in-Some.is c.in_ok-line.ensures.next in
          record {
            name = c.loop-line.invariant.writer;
            of_desk = c.next_line.ensures.of_desk ∙ c.loop-line.invariant.of_desk;
            reader = c.next_line.ensures.reader ∙ c.loop-line.invariant.reader;
            did = record {
              name = c.ask_owned.ensures.step.name ∙ c.loop-line.invariant.name;
              same = c.ask_owned.ensures.step.same ∙ c.loop-line.invariant.same;
              first = c.ask_owned.ensures.step.first ∙ c.loop-line.invariant.first;
              did = left_through g.P.TracePort.told (AtDesk (first_side (desk_seen g.P.TracePort c.args.desk.now))) (AtDesk (side_seen g.P.TracePort c.loop-line.desk c.loop-line.attached)) (AtDesk (side_seen g.P.TracePort c.ask_owned.new.desk c.ask_owned.new.attached)) (IsAtDesk (desk_seen g.P.TracePort c.ask_owned.new.desk))
                  _ c.ask_owned.result c.in-Left.leave _ _ c.args.script.now.is_of_desk _ _ _ _ c.loop-line.invariant.run c.ask_owned.ensures.step.did c.in-Left.is refl comes.0 comes.1;
            };
          };
    }

pub loop-line-preserved : goal.loop-line-preserved
loop-line-preserved g c =
    let comes = line_comes c.args.script.now.is_of_desk c.loop-line.script.is_of_desk _ _ _ _ _ c.loop-line.invariant.of_desk c.in-Some.is c.in_ok-line.ensures.next in
    record {
      name = c.ask_owned.ensures.step.name ∙ c.loop-line.invariant.name;
      same = c.ask_owned.ensures.step.same ∙ c.loop-line.invariant.same;
      first = c.ask_owned.ensures.step.first ∙ c.loop-line.invariant.first;
      writer = c.in_ok-tell-in-Told.ensures.name ∙ c.loop-line.invariant.writer;
      of_desk = c.next_line.ensures.of_desk ∙ c.loop-line.invariant.of_desk;
      reader = c.next_line.ensures.reader ∙ c.loop-line.invariant.reader;
      run = reads_on g.P.TracePort.told (AtDesk (first_side (desk_seen g.P.TracePort c.args.desk.now))) (AtDesk (side_seen g.P.TracePort c.loop-line.desk c.loop-line.attached)) (AtDesk (side_seen g.P.TracePort c.ask_owned.new.desk c.ask_owned.new.attached))
          _ c.ask_owned.result c.in-Told.answer _ _ _ c.args.script.now.is_of_desk _ _ _ _ c.loop-line.invariant.run c.ask_owned.ensures.step.did c.in-Told.is comes.0 comes.1 c.in_ok-tell-in-Told.ensures.text;
    }

pub returns : goal.returns
returns g c =
    record {
      run = record {
        name = c.loop-line.invariant.writer;
        of_desk = c.loop-line.invariant.of_desk;
        reader = c.loop-line.invariant.reader;
        did = record {
          name = c.loop-line.invariant.name;
          same = c.loop-line.invariant.same;
          first = c.loop-line.invariant.first;
          did = failed_through g.P.TracePort.told (AtDesk (first_side (desk_seen g.P.TracePort c.args.desk.now))) (AtDesk (side_seen g.P.TracePort c.loop-line.desk c.loop-line.attached)) (IsAtDesk (desk_seen g.P.TracePort c.loop-line.desk)) _ _ _ c.args.script.now.is_of_desk _ _ _ _
              c.loop-line.invariant.run refl (IsBrokenOff.no_line (IsNoLine.not_given scripts.Read (none_read c.args.script.now.is_of_desk _)));
        };
      };
    }
