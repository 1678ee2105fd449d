use Rattle.std.proofs.Common.{◌≡◌}
use Rattle.script_lines.specs.Reading.{progress, TakesOf}
use Rattle.script_lines.proofs.Taken.{HasPassed}
use Rattle.script_lines.proofs.script.Script.next_line.Given as goal

abbrev pub invariant-loop-line : goal.invariant-loop-line
invariant-loop-line g l = record {
  desk : l.self.is_of_desk ≡ l.fn.self.is_of_desk;
  name : l.self.reader.ghost_name ≡ l.fn.self.reader.ghost_name;
  passed : HasPassed (progress l.fn.self.number (g.R.Read.remaining l.fn.self.reader.now)) (progress l.self.number (g.R.Read.remaining l.self.reader.now));
  room : TakesOf l.fn.self.left l.self.left (g.R.Read.remaining l.fn.self.reader.now) (g.R.Read.remaining l.self.reader.now);
}
