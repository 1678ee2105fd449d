use Rattle.std.proofs.Common.{[]}
use Rattle.commands.proofs.files.Files.again.Given as goal

abbrev pub ghost-at : goal.ghost-at
ghost-at a = record { start = []; left = []; later = [] }
