use Rattle.stores.specs.NamedFiles.{KeepsFiles}
use Rattle.stores.proofs.named_files.NamedFiles.settle_beside.Given as goal

abbrev pub invariant-loop-other : goal.invariant-loop-other
invariant-loop-other l = KeepsFiles l.fn.self l.self
