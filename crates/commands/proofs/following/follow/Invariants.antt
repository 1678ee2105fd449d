use Rattle.std.specs.Prelude.{◌≡◌}
use Rattle.commands.specs.Following.{Looks}
use Rattle.commands.proofs.following.follow.Given as goal

-- the looks so far, each of which is written out; the trace is still the same one
abbrev pub invariant-loop : goal.invariant-loop
invariant-loop g l =
    Looks (record { files = l.fn.files.store; follower = l.fn.follower; holds = g.W.Write.contents l.fn.watched.writer.now })
    l.refused
    (record { files = l.files.store; follower = l.follower; holds = g.W.Write.contents l.watched.writer.now })
    × (l.files.place ≡ l.fn.files.place)
