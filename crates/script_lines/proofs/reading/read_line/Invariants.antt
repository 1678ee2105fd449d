use Rattle.std.proofs.Common.{◌≢◌, ◌≤◌, All, length}
use Rattle.std.specs.Io.KnownBytes.{Consumes}
use Rattle.script_lines.proofs.reading.read_line.Given as goal

abbrev pub invariant-loop-part : goal.invariant-loop-part
invariant-loop-part g l = record {
  consumes : Consumes (g.R.Read.remaining l.fn.reader) (g.R.Read.remaining l.reader) l.text.items;
  no_break : All (λ b. b ≢ 10) l.text.items;
  short : length l.text.items ≤ 300000;
}
