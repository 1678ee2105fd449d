use Rattle.std.proofs.Common.{◌≡◌, length}
use Rattle.std.specs.Io.KnownBytes.{Keeps}
use Rattle.prepared_requests.proofs.ahead.read_once.Given as goal

abbrev pub invariant-loop-try : goal.invariant-loop-try
invariant-loop-try g l = record {
  size : length l.slice ≡ length l.fn.slice;
  kept : Keeps (g.I.Read.remaining l.fn.input) (g.I.Read.remaining l.input);
}
