use Rattle.std.proofs.Common.{◌≤◌, length, take}
use Rattle.std.specs.List.{AllByRecursion}
use Rattle.trace_store.specs.Disk.{Image}
use Rattle.foreign_files.specs.Disagreeing.{IsOpenFile, AreOpenFiles}
use Rattle.foreign_files.proofs.open_files.newest.Given as goal

abbrev pub invariant-loop-file : goal.invariant-loop-file
invariant-loop-file l = record {
  near : l.file-index ≤ length l.files;
  is : (image : Image) → AreOpenFiles image l.files → IsOpenFile image l.newest;
  most : AllByRecursion (λ f. f.header.generation ≤ l.newest.header.generation) (take l.file-index l.files);
}
