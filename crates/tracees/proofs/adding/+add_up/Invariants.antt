use Rattle.std.proofs.Common.{vec_len}
use Rattle.tracees.proofs.adding.+add_up.Given as goal

abbrev pub decreases-add_up : goal.decreases-add_up
decreases-add_up g l = vec_len l.accounts.now
