use Rattle.std.proofs.Common.{◌≡◌, ◌+◌, ◌*◌, ◌<◌, ◌≤◌, ℕ, None}
use Rattle.trace_store.specs.Disk.{file_of}
use Rattle.trace_store.specs.Device.{OnlyReads}
use Rattle.foreign_files.specs.Headers.{IsHeaderOf}
use Rattle.foreign_files.proofs.headers.first_header.Given as goal

abbrev pub invariant-loop-file : goal.invariant-loop-file
invariant-loop-file g l = record {
  only_reads : OnlyReads g.S.Store.made g.S.Store.honest g.S.Store.clock_of g.S.Store.reads g.S.Store.images g.S.Store.moments l.initial.store l.store;
  none : g.S.Store.honest l.store → (k : ℕ) → k < l.file → IsHeaderOf None (file_of (g.S.Store.reads l.initial.store) k);
  most : g.S.Store.clock_of l.store ≤ g.S.Store.clock_of l.initial.store + 2 * l.file;
  failures : g.S.Store.failures_of l.store ≡ g.S.Store.failures_of l.initial.store;
}
