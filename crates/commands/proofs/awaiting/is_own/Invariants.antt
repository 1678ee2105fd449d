use Rattle.std.proofs.Common.{[]}
use Rattle.commands.proofs.awaiting.is_own.Given as goal

abbrev pub ghost-over : goal.ghost-over
ghost-over a = record { start = []; left = []; later = [] }
