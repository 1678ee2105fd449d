use Rattle.std.proofs.Common.{◌<◌, ℕ, take}
use Rattle.std.specs.Prelude.{IfSome}
use Rattle.trace_store.specs.Disk.{Image}
use Rattle.foreign_files.specs.Disagreeing.{IsOpenFile, AreOpenFiles, AreWithin, IsLeastAbove}
use Rattle.foreign_files.proofs.open_files.next_above.Given as goal

abbrev pub invariant-loop-file : goal.invariant-loop-file
invariant-loop-file l = record {
  least : IsLeastAbove l.generation (take l.file-index l.files) l.next;
  is : (image : Image) → AreOpenFiles image l.files → IfSome l.next (IsOpenFile image);
  within : (count : ℕ) → AreWithin count l.files → IfSome l.next (λ n. n.file < count);
}
