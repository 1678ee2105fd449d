use Rattle.std.proofs.Common.{◌≡◌, length}
use Rattle.std.specs.Io.KnownBytes.{Keeps}
use Rattle.import.proofs.source.read_from.Given as goal

abbrev pub invariant-loop-try : goal.invariant-loop-try
invariant-loop-try g l = record {
  size : length l.slice ≡ length l.fn.slice;
  kept : Keeps (g.R.Read.remaining l.fn.reader) (g.R.Read.remaining l.reader);
  same : g.H.Host.observed l.host ≡ g.H.Host.observed l.fn.host;
}
