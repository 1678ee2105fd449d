use Rattle.std.proofs.Common.{◌≡◌, ◌≤◌, ℕ, drop, take, length}
use Rattle.std.specs.List.{AllByRecursion}
use Rattle.trace_store.specs.Disk.{Image}
use Rattle.segment.specs.Seen.{header_seen}
use Rattle.recovery.specs.Stores.{file_for}
use Rattle.foreign_files.specs.Disagreeing.{IsOpenFile, AreOpenFiles, AreWithin}
use Rattle.foreign_files.proofs.disagreeing.misplaced.Given as goal

abbrev pub invariant-loop-file : goal.invariant-loop-file
invariant-loop-file l = record {
  near : l.file-index ≤ length l.files;
  are : (image : Image) → AreOpenFiles image l.files → AllByRecursion (IsOpenFile image) (drop l.file-index l.files);
  within : (count : ℕ) → AreWithin count l.files → AreWithin count (drop l.file-index l.files);
  placed : AllByRecursion (λ f. file_for (header_seen f.header).spec f.header.generation ≡ f.file) (take l.file-index l.files);
}
