use Rattle.std.proofs.Common.{◌≤◌, ◌-◌}
use Rattle.import.specs.Incoming.{outside}
use Rattle.import.specs.Beginning.{Skips}
use Rattle.import.proofs.beginning.skip.Given as goal

abbrev pub invariant-reads : goal.invariant-reads
invariant-reads g l =
    let was = outside (g.S.Source.remaining l.fn.source) (g.S.Source.reads l.fn.source) (g.H.Host.observed l.fn.host) in
    let is = outside (g.S.Source.remaining l.source) (g.S.Source.reads l.source) (g.H.Host.observed l.host) in
    record { within : l.left ≤ l.fn.count; skips : Skips (l.fn.count - l.left) was is }

abbrev pub decreases-reads : goal.decreases-reads
decreases-reads g l = l.left
