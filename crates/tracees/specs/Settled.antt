-- What comes back of a desk and its accounts.
use Rattle.std.specs.Prelude.{◌≡◌, List}
use Rattle.trace_port.specs.declared.port.TracePort.{Ghosts as PortGhosts}
use Rattle.tracees.specs.States.{place_of}
use Rattle.tracees.specs.Sums.{sums_each}
use Rattle.tracees.specs.declared.account.Account.{Account}
use Rattle.tracees.specs.declared.book.Bookkeeping.{Ghosts as BookGhosts}
use Rattle.tracees.specs.declared.desk.Desk.{Desk}
use Rattle.tracees.specs.declared.settling.SettleFault.{SettleFault}
use Rattle.tracees.specs.declared.settling.SettleFault.TheVariants.{Missing}

-- the desk as it was, over the same loan, counting from the same entry and the same lost message
pub record IsSameDesk {P K S : Type 0} (port : PortGhosts P) (keep : BookGhosts K S) (old new : Desk P K S port keep) : Type 0 where
  pub place : place_of port keep new ≡ place_of port keep old
  pub name : new.port.ghost_name ≡ old.port.ghost_name
  pub first : new.first ≡ old.first
  pub first_drops : new.first_drops ≡ old.first_drops
  pub drop_entries : new.drop_entries ≡ old.drop_entries

-- the desk and the accounts as they were
abbrev pub IsHandedBack : {P K S : Type 0} (port : PortGhosts P) (keep : BookGhosts K S) → Desk P K S port keep → List (Account K S) → SettleFault P K S port keep → Type 0
IsHandedBack port keep desk accounts (Missing back left) = IsSameDesk port keep desk back × (sums_each keep.sums_of left.items ≡ sums_each keep.sums_of accounts)
