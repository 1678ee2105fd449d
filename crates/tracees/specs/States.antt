-- The desks and tracees in memory, as the state of a run.
use Rattle.std.specs.Prelude.{◌≡◌, ℕ, ◌<◌, List, get_or, length, map}
use Rattle.trace_port.specs.declared.port.TracePort.{Ghosts as PortGhosts}
use Rattle.tracees.specs.Desks.{DeskState, Seat}
use Rattle.tracees.specs.Steps.{State}
use Rattle.tracees.specs.declared.book.Bookkeeping.{Ghosts as BookGhosts}
use Rattle.tracees.specs.declared.desk.Desk.{Desk}
use Rattle.tracees.specs.declared.traced.Traced.{Traced}

-- a desk in memory
abbrev pub place_of : {P K S : Type 0} (port : PortGhosts P) (keep : BookGhosts K S) → Desk P K S port keep → DeskState P
place_of port keep d = record { number = d.number; port = d.port.now; counted = keep.totals_of d.book; attached = keep.attached_of d.book }

-- a tracee in memory
abbrev pub seat_of : {K S : Type 0} (keep : BookGhosts K S) → Traced K S keep → Seat
seat_of keep t = record { desk = t.desk; tracee = t.tracee; sums = keep.sums_of t.account.slip }

-- this is the index of the tracee's desk, and both are there
pub record IsDeskOf {P K S : Type 0} (port : PortGhosts P) (keep : BookGhosts K S) (desks : List (Desk P K S port keep)) (traced : List (Traced K S keep)) (tracee desk : ℕ) : Type 0 where
  pub there : tracee < length traced
  pub is : (t : Traced K S keep) → desk ≡ (get_or traced tracee t).desk
  pub here : desk < length desks

-- desks in memory, beside any tracees
abbrev pub places_with : {P K S : Type 0} (port : PortGhosts P) (keep : BookGhosts K S) → List (Desk P K S port keep) → List Seat → State P
places_with port keep desks tracees = record { desks = map (place_of port keep) desks; tracees = tracees }

-- both in memory
abbrev pub state_of : {P K S : Type 0} (port : PortGhosts P) (keep : BookGhosts K S) → List (Desk P K S port keep) → List (Traced K S keep) → State P
state_of port keep desks traced = record { desks = map (place_of port keep) desks; tracees = map (seat_of keep) traced }
