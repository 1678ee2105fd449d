use Rattle.std.proofs.Common.{◌≡◌, ◌+◌, ◌*◌, ◌≤◌, take, length}
use Rattle.stores.specs.CallRecords.{contents_of}
use Rattle.trace_store.specs.Device.{OnlyReads}
use Rattle.simulator.proofs.contents.contents_of.Given as goal

abbrev pub invariant-loop-file : goal.invariant-loop-file
invariant-loop-file g l = record {
  only_reads : OnlyReads g.S.Store.made g.S.Store.honest g.S.Store.clock_of g.S.Store.reads g.S.Store.images g.S.Store.moments l.fn.store l.store;
  most : g.S.Store.clock_of l.store ≤ g.S.Store.clock_of l.fn.store + 2 * l.file;
  failures : g.S.Store.failures_of l.store ≡ g.S.Store.failures_of l.fn.store;
  count : length l.contents.items ≡ l.file;
  read : g.S.Store.honest l.store → contents_of l.contents.items ≡ take l.file (g.S.Store.reads l.fn.store);
}
