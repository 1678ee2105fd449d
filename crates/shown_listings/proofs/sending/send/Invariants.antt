use Rattle.std.proofs.Common.{◌≡◌, ◌-◌, ℕ, List, length, drop}
use Rattle.shown_listings.specs.Rows.{Sends}
use Rattle.shown_listings.proofs.sending.send.Given as goal

-- What was left when the loop began is what was taken since, and what is left.
abbrev pub invariant-rest : goal.invariant-rest
invariant-rest g l = record {
  same : l.unsent.bytes ≡ l.initial.unsent.bytes;
  start : l.written.start ≡ l.initial.written.start;
  sends : (all : List ℕ) → Sends (g.W.Write.contents l.initial.out) l.initial.written (drop l.initial.unsent.taken l.initial.unsent.bytes.items) all
      → Sends (g.W.Write.contents l.out) l.written (drop l.unsent.taken l.unsent.bytes.items) all;
}

abbrev pub decreases-rest : goal.decreases-rest
decreases-rest g l = length l.unsent.bytes.items - l.unsent.taken
