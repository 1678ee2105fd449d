-- What the desk of a test begins with.
use Rattle.std.specs.Prelude.{◌≡◌}
use Rattle.trace_port.specs.declared.port.TracePort.{Ghosts as PortGhosts}
use Rattle.tracees.specs.Books.{no_totals}
use Rattle.tracees.specs.Meanings.{KeepsMeaning}
use Rattle.tracees.specs.declared.book.Bookkeeping.{Ghosts as BookGhosts}

-- a book of the desk 7, in which nothing is counted and no account was opened, and a port that keeps its meaning
pub record Begins {P K S : Type 0} (port : PortGhosts P) (keep : BookGhosts K S) (lent : P) (book : K) : Type 0 where
  pub totals : keep.totals_of book ≡ no_totals
  pub attached : keep.attached_of book ≡ 0
  pub number : keep.desk ≡ 7
  pub fits : KeepsMeaning (port.told lent)
