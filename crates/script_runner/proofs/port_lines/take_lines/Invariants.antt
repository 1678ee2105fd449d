use Rattle.std.proofs.Common.{◌≡◌, None}
use Rattle.script_lines.specs.Reading.{progress}
use Rattle.script_runner.specs.Sides.{Alone}
use Rattle.script_runner.proofs.Through.{HasRead}
use Rattle.script_runner.proofs.port_lines.take_lines.Given as goal

abbrev pub invariant-loop-line : goal.invariant-loop-line
invariant-loop-line g l = record {
  same : g.P.TracePort.lender l.port ≡ g.P.TracePort.lender l.fn.port;
  name : l.answers.writer.ghost_name ≡ l.fn.answers.writer.ghost_name;
  of_desk : l.script.is_of_desk ≡ l.fn.script.is_of_desk;
  reader : l.script.reader.ghost_name ≡ l.fn.script.reader.ghost_name;
  run : HasRead g.P.TracePort.told (Alone l.fn.port) None (Alone l.port) (g.W.Write.contents l.fn.answers.writer.now) (g.W.Write.contents l.answers.writer.now)
      l.fn.script.is_of_desk l.fn.files (progress l.fn.script.number (g.R.Read.remaining l.fn.script.reader.now)) (progress l.script.number (g.R.Read.remaining l.script.reader.now));
}
