use Rattle.std.proofs.Common.{ℕ, ◌≤◌, ◌<◌}
use Rattle.trace_store.specs.Disk.{Image}
use Rattle.segment.specs.Seen.{spec_seen}
use Rattle.recovery.specs.Stores.{file_for}
use Rattle.foreign_files.specs.Disagreeing.{HasNone, AreOpenFiles}
use Rattle.foreign_files.proofs.disagreeing.missing.Given as goal

abbrev pub invariant-loop-older : goal.invariant-loop-older
invariant-loop-older l = record {
  from : l.oldest ≤ l.older;
  there : (k : ℕ) → l.oldest ≤ k → k < l.older → file_for (spec_seen l.spec) k < l.count → (image : Image) → AreOpenFiles image l.files → HasNone image k → ⊥;
}
