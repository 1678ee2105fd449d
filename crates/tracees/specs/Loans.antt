-- What was done with a port that is lent and in a desk, and that it stays lent as it was.
use Rattle.std.specs.Prelude.{◌≡◌, List, map}
use Rattle.trace_port.specs.declared.port.TracePort.{Ghosts as PortGhosts}
use Rattle.tracees.specs.declared.book.Bookkeeping.{Ghosts as BookGhosts}
use Rattle.tracees.specs.declared.desk.Desk.{Desk}

-- this was done, and the port in a desk has the loan of its store that it had; the desk still has its loan, and counts from the same entry
pub record KeepsLoans {P K S : Type 0} (port : PortGhosts P) (keep : BookGhosts K S) (old new : Desk P K S port keep) (Did : Type 0) : Type 0 where
  pub name : new.port.ghost_name ≡ old.port.ghost_name
  pub same : port.lender new.port.now ≡ port.lender old.port.now
  pub first : new.first ≡ old.first
  pub did : Did

-- the same of the ports in desks
pub record KeepAllLoans {P K S : Type 0} (port : PortGhosts P) (keep : BookGhosts K S) (old new : List (Desk P K S port keep)) (Did : Type 0) : Type 0 where
  pub loans : map (λ d. d.port.ghost_name) new ≡ map (λ d. d.port.ghost_name) old
  pub lenders : map (λ d. port.lender d.port.now) new ≡ map (λ d. port.lender d.port.now) old
  pub did : Did
