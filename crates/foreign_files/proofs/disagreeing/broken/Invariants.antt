use Rattle.std.proofs.Common.{◌≡◌, ◌+◌, ◌*◌, ◌≤◌, length, take}
use Rattle.std.specs.List.{AllByRecursion}
use Rattle.trace_store.specs.Device.{OnlyReads}
use Rattle.segment.specs.Pieces.{pieces_to}
use Rattle.foreign_files.specs.Disagreeing.{AreAlike, AreInPlace, AreOpenFiles}
use Rattle.foreign_files.proofs.Agreeing.{IsGoneOnFrom}
use Rattle.foreign_files.proofs.disagreeing.broken.Given as goal

abbrev pub invariant-loop-file : goal.invariant-loop-file
invariant-loop-file g l = record {
  only_reads : OnlyReads g.S.Store.made g.S.Store.honest g.S.Store.clock_of g.S.Store.reads g.S.Store.images g.S.Store.moments l.initial.store l.store;
  most : g.S.Store.clock_of l.store ≤ g.S.Store.clock_of l.initial.store + (2 + pieces_to 1099511627780) * l.file-index;
  near : l.file-index ≤ length l.files;
  on : g.S.Store.honest l.store → AreOpenFiles (g.S.Store.reads l.initial.store) l.files → AreAlike (g.S.Store.reads l.initial.store) → AreInPlace (g.S.Store.reads l.initial.store)
      → AllByRecursion (IsGoneOnFrom (g.S.Store.reads l.initial.store)) (take l.file-index l.files);
  failures : g.S.Store.failures_of l.store ≡ g.S.Store.failures_of l.initial.store;
}
