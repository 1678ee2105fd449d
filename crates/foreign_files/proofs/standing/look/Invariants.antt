use Rattle.std.proofs.Common.{◌≡◌, ◌+◌, ◌*◌, ◌≤◌, take}
use Rattle.std.specs.Prelude.{sum_by}
use Rattle.trace_store.specs.Device.{OnlyReads}
use Rattle.foreign_files.specs.Standing.{NamesWithin, looks_for}
use Rattle.foreign_files.proofs.Looked.{HasLooked}
use Rattle.foreign_files.proofs.standing.look.Given as goal

abbrev pub invariant-loop-file : goal.invariant-loop-file
invariant-loop-file g l = record {
  only_reads : OnlyReads g.S.Store.made g.S.Store.honest g.S.Store.clock_of g.S.Store.reads g.S.Store.images g.S.Store.moments l.initial.store l.store;
  looked : g.S.Store.honest l.store → HasLooked l.standing (g.S.Store.reads l.initial.store) l.file;
  calls : g.S.Store.honest l.store → g.S.Store.clock_of l.store ≡ g.S.Store.clock_of l.initial.store + sum_by looks_for (take l.file (g.S.Store.reads l.initial.store));
  most : g.S.Store.clock_of l.store ≤ g.S.Store.clock_of l.initial.store + 2 * l.file;
  plain : NamesWithin 0 l.standing;
  failures : g.S.Store.failures_of l.store ≡ g.S.Store.failures_of l.initial.store;
}
