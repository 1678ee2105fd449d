use Rattle.std.proofs.Common.{◌≢◌, ◌≤◌, length, take}
use Rattle.std.specs.List.{AllByRecursion}
use Rattle.foreign_files.proofs.open_files.has_generation.Given as goal

abbrev pub invariant-loop-file : goal.invariant-loop-file
invariant-loop-file l = record {
  near : l.file-index ≤ length l.files;
  others : AllByRecursion (λ f. f.header.generation ≢ l.generation) (take l.file-index l.files);
}
