use Rattle.std.proofs.Common.{◌≡◌, ◌+◌, ◌*◌, ◌<◌, ◌≤◌, ℕ, length}
use Rattle.std.specs.List.{AllByRecursion}
use Rattle.trace_store.specs.Disk.{file_of}
use Rattle.trace_store.specs.Device.{OnlyReads}
use Rattle.segment.specs.Segments.{Header}
use Rattle.foreign_files.specs.Headers.{OpensWith}
use Rattle.foreign_files.specs.Disagreeing.{IsOpenFile, IsAmong, AreWithin}
use Rattle.foreign_files.proofs.open_files.open_files.Given as goal

abbrev pub invariant-loop-file : goal.invariant-loop-file
invariant-loop-file g l = record {
  only_reads : OnlyReads g.S.Store.made g.S.Store.honest g.S.Store.clock_of g.S.Store.reads g.S.Store.images g.S.Store.moments l.initial.store l.store;
  most : g.S.Store.clock_of l.store ≤ g.S.Store.clock_of l.initial.store + 2 * l.file;
  failures : g.S.Store.failures_of l.store ≡ g.S.Store.failures_of l.initial.store;
  within : AreWithin (length (g.S.Store.reads l.initial.store)) l.files.items;
  are : g.S.Store.honest l.store → AllByRecursion (IsOpenFile (g.S.Store.reads l.initial.store)) l.files.items;
  all : g.S.Store.honest l.store → (k : ℕ) (h : Header) → k < l.file → OpensWith (file_of (g.S.Store.reads l.initial.store) k) h → IsAmong k h l.files.items;
  few : length l.files.items ≤ l.file;
}
