use Rattle.std.proofs.Common.{[], refl, ◌∙◌, subst, Bool, rules}
use Rattle.std.proofs.lemmas.Result.{err_from_is_err_and}
use Rattle.script_lines.specs.Reading.{progress}
use Rattle.script_lines.specs.declared.fault.ScriptFault.TheVariants as scripts
use Rattle.script_runner.specs.Read.{IsNoLine}
use Rattle.simulator.specs.Simulated.{none, more, to_end, no_line, broken_off}
use Rattle.script_runner.proofs.Through.{line_comes, none_comes, none_read}
use Rattle.simulator.proofs.Simulating.{whole_so}
use Rattle.simulator.proofs.sim.run_lines.Goals as goal

pub loop-line-init : goal.loop-line-init
loop-line-init g c = record { name = refl; of_desk = refl; reader = refl; done = ([], none) }

pub returns-in_err-line : goal.returns-in_err-line
returns-in_err-line g c =
    record {
      simulates = let p = err_from_is_err_and c.from_residual.result c.from_residual.ensures.1 in
          let was = progress c.loop-line.script.number (g.R.Read.remaining c.loop-line.script.reader.now) in
          let is = progress c.next_line.new.script.number (g.R.Read.remaining c.next_line.new.script.reader.now) in
          let done = c.loop-line.invariant.done in
          let stops = subst (λ (d : Bool). IsNoLine d c.files.result was is c.in_err-line.field-0.0) c.loop-line.invariant.of_desk c.in_err-line.ensures.next in
          record {
            name = c.loop-line.invariant.name;
            of_desk = c.next_line.ensures.of_desk ∙ c.loop-line.invariant.of_desk;
            reader = c.next_line.ensures.reader ∙ c.loop-line.invariant.reader;
            did = rw (p.1, p.2) (no_line done.0 _ done.1 (rw c.files.ensures at stops));
          };
    }

pub returns-in_default : goal.returns-in_default
returns-in_default g c =
    record {
      simulates = let done = c.loop-line.invariant.done in
          record {
            name = c.loop-line.invariant.name;
            of_desk = c.next_line.ensures.of_desk ∙ c.loop-line.invariant.of_desk;
            reader = c.next_line.ensures.reader ∙ c.loop-line.invariant.reader;
            did = to_end done.0 done.1 (none_comes c.loop-line.script.is_of_desk _ _ _ _ (search rules) c.in_ok-line.ensures.next);
          };
    }

pub run_whole-requires-clause-file : goal.run_whole-requires-clause-file
run_whole-requires-clause-file g c =
    let comes = line_comes c.args.script.now.is_of_desk c.loop-line.script.is_of_desk _ _ _ _ _ c.loop-line.invariant.of_desk c.in-Some.is c.in_ok-line.ensures.next in
    rw c.files.ensures at comes.1

pub returns-in_err-run_whole : goal.returns-in_err-run_whole
returns-in_err-run_whole g c =
    record {
      simulates = let p = err_from_is_err_and c.from_residual-in_err-run_whole.result c.from_residual-in_err-run_whole.ensures.1 in
          let done = c.loop-line.invariant.done in
          let comes = line_comes c.args.script.now.is_of_desk c.loop-line.script.is_of_desk _ _ _ _ _ c.loop-line.invariant.of_desk c.in-Some.is c.in_ok-line.ensures.next in
          record {
            name = c.in_err-run_whole.ensures.run.name ∙ c.loop-line.invariant.name;
            of_desk = c.run_whole.ensures.run.of_desk ∙ c.next_line.ensures.of_desk ∙ c.loop-line.invariant.of_desk;
            reader = c.run_whole.ensures.run.reader ∙ c.next_line.ensures.reader ∙ c.loop-line.invariant.reader;
            did = rw (p.1, p.2) (broken_off done.0 _ c.in_err-run_whole.field-0.0 done.1 comes.0 (rw c.files.ensures at comes.1) (whole_so _ _ _ _ _ _ _ _ _ _ (c.next_line.ensures.of_desk ∙ c.loop-line.invariant.of_desk) c.in_err-run_whole.ensures.run.did));
          };
    }

pub loop-line-preserved : goal.loop-line-preserved
loop-line-preserved g c =
    let done = c.loop-line.invariant.done in
    let comes = line_comes c.args.script.now.is_of_desk c.loop-line.script.is_of_desk _ _ _ _ _ c.loop-line.invariant.of_desk c.in-Some.is c.in_ok-line.ensures.next in
    record {
      name = c.in_ok-run_whole.ensures.run.name ∙ c.loop-line.invariant.name;
      of_desk = c.run_whole.ensures.run.of_desk ∙ c.next_line.ensures.of_desk ∙ c.loop-line.invariant.of_desk;
      reader = c.run_whole.ensures.run.reader ∙ c.next_line.ensures.reader ∙ c.loop-line.invariant.reader;
      done = (_, more _ done.1 comes.0 (rw c.files.ensures at comes.1) (whole_so _ _ _ _ _ _ _ _ _ _ (c.next_line.ensures.of_desk ∙ c.loop-line.invariant.of_desk) c.in_ok-run_whole.ensures.run.did));
    }

pub returns : goal.returns
returns g c =
    record {
      simulates = let done = c.loop-line.invariant.done in
          record {
            name = c.loop-line.invariant.name;
            of_desk = c.loop-line.invariant.of_desk;
            reader = c.loop-line.invariant.reader;
            did = no_line done.0 _ done.1 (IsNoLine.not_given scripts.Read (none_read c.args.script.now.is_of_desk _));
          };
    }
