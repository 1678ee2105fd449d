-- What a contract sees of a desk, and of a tracee that is attached at one.
use Rattle.std.specs.Prelude.{◌≡◌, ℕ, ◌≤◌}
use Rattle.intake.specs.declared.tracee.Tracee.{Tracee}
use Rattle.tracees.specs.declared.book.Totals.{Totals}

-- a desk: its number, its port, what its book counts, and how many tracees were attached
pub record DeskState (P : Type 0) : Type 0 where
  pub number : ℕ
  pub port : P
  pub counted : Totals
  pub attached : ℕ

-- a tracee, the number of the desk at which it is attached, and what went through its account
pub record Seat : Type 0 where
  pub desk : ℕ
  pub tracee : Tracee
  pub sums : Totals

-- the desk's book stays
pub record SameBook {P : Type 0} (old new : DeskState P) : Type 0 where
  pub number : new.number ≡ old.number
  pub counted : new.counted ≡ old.counted
  pub attached : new.attached ≡ old.attached

-- the messages of an account are flushed: what the book counts as flushed is at most its messages
pub record BookCovers {P : Type 0} (old new : DeskState P) : Type 0 where
  pub number : new.number ≡ old.number
  pub messages : new.counted.messages ≡ old.counted.messages
  pub drops : new.counted.drops ≡ old.counted.drops
  pub flushed : new.counted.flushed ≤ new.counted.messages
  pub attached : new.attached ≡ old.attached
