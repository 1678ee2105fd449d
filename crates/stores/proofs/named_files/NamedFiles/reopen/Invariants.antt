use Rattle.std.proofs.Common.{take}
use Rattle.std.specs.List.{All}
use Rattle.stores.specs.Standing.{IsUnseen}
use Rattle.stores.proofs.named_files.NamedFiles.reopen.Given as goal

-- those so far are closed
abbrev pub invariant-loop-file : goal.invariant-loop-file
invariant-loop-file l = All IsUnseen (take l.file-index l.file-items)
