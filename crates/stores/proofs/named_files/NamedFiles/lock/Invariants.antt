use Rattle.stores.specs.NamedFiles.{KeepsFiles}
use Rattle.stores.proofs.named_files.NamedFiles.lock.Given as goal

abbrev pub invariant-loop-file : goal.invariant-loop-file
invariant-loop-file l = KeepsFiles l.fn.self l.self
