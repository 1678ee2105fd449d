use Rattle.std.proofs.Common.{◌≡◌, None}
use Rattle.script_lines.specs.Reading.{progress}
use Rattle.script_runner.specs.Sides.{AtDesk, first_side, desk_seen, side_seen}
use Rattle.script_runner.proofs.Through.{HasRead}
use Rattle.script_runner.proofs.desk_lines.run_desk.Given as goal

abbrev pub invariant-loop-line : goal.invariant-loop-line
invariant-loop-line g l = record {
  name : l.desk.port.ghost_name ≡ l.fn.desk.port.ghost_name;
  same : g.P.TracePort.lender l.desk.port.now ≡ g.P.TracePort.lender l.fn.desk.port.now;
  first : l.desk.first ≡ l.fn.desk.first;
  writer : l.answers.writer.ghost_name ≡ l.fn.answers.writer.ghost_name;
  of_desk : l.script.is_of_desk ≡ l.fn.script.is_of_desk;
  reader : l.script.reader.ghost_name ≡ l.fn.script.reader.ghost_name;
  run : HasRead g.P.TracePort.told (AtDesk (first_side (desk_seen g.P.TracePort l.fn.desk))) None (AtDesk (side_seen g.P.TracePort l.desk l.attached)) (g.W.Write.contents l.fn.answers.writer.now) (g.W.Write.contents l.answers.writer.now)
      l.fn.script.is_of_desk l.fn.files (progress l.fn.script.number (g.R.Read.remaining l.fn.script.reader.now)) (progress l.script.number (g.R.Read.remaining l.script.reader.now));
}
