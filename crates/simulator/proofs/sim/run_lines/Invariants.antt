use Rattle.std.proofs.Common.{◌≡◌, List}
use Rattle.script_lines.specs.Reading.{progress}
use Rattle.script_lines.specs.declared.line.Line.{Line}
use Rattle.simulator.specs.Simulated.{AreRun}
use Rattle.simulator.proofs.sim.run_lines.Given as goal

abbrev pub invariant-loop-line : goal.invariant-loop-line
invariant-loop-line g l = record {
  name : l.answers.writer.ghost_name ≡ l.fn.answers.writer.ghost_name;
  of_desk : l.script.is_of_desk ≡ l.fn.script.is_of_desk;
  reader : l.script.reader.ghost_name ≡ l.fn.script.reader.ghost_name;
  done : (done : List Line) × AreRun l.fn.script.is_of_desk l.fn.store (progress l.fn.script.number (g.R.Read.remaining l.fn.script.reader.now)) (g.W.Write.contents l.fn.answers.writer.now) done
      l.store (progress l.script.number (g.R.Read.remaining l.script.reader.now)) (g.W.Write.contents l.answers.writer.now);
}
