-- What is held while lines are run: a port, alone or in a desk with its tracees.
use Rattle.std.specs.Prelude.{ℕ, nat_eq, pos, Option, List, [], map, position}
use Rattle.trace_message.specs.declared.event.Stamp.{Stamp}
use Rattle.trace_port.specs.declared.port.TracePort.{Ghosts as PortGhosts}
use Rattle.tracees.specs.Books.{no_totals}
use Rattle.tracees.specs.Desks.{DeskState, Seat}
use Rattle.tracees.specs.Loans.{KeepsLoans}
use Rattle.tracees.specs.States.{place_of, seat_of}
use Rattle.tracees.specs.declared.book.PlainBook.{PlainBook}
use Rattle.tracees.specs.declared.book.PlainAccount.{PlainAccount}
use Rattle.tracees.specs.declared.desk.Desk.{Desk}
use Rattle.tracees.specs.declared.traced.Traced.{Traced}
use Rattle.tracees.specs.contracts.book.PlainBookBookkeeping.TheImpl as plain
use Rattle.script_runner.specs.declared.attached.Attached.{Attached}

-- a desk, the moment of the next event, and the tracees in the order in which they were attached
pub record DeskSide (P : Type 0) : Type 0 where
  pub desk : DeskState P
  pub moment : Stamp
  pub seats : List Seat

-- a port alone, or one in a desk
pub data Held (P : Type 0) : Type 0 where
  Alone : P → Held P
  AtDesk : DeskSide P → Held P

-- the port that is held
abbrev pub port_of : {P : Type 0} → Held P → P
port_of (Alone p) = p
port_of (AtDesk side) = side.desk.port

-- with this port in its place, and all else as it was
abbrev pub with_port : {P : Type 0} → Held P → P → Held P
with_port (Alone p) q = Alone q
with_port (AtDesk side) q = AtDesk (record side { desk = record side.desk { port = q } })

-- a desk at which no tracee is attached yet, at the moment 0
abbrev pub first_side : {P : Type 0} → DeskState P → DeskSide P
first_side place = record { desk = place; moment = record { mega = 0; sec = 0; micro = 0; mono = pos 0 }; seats = [] }

-- a port that has just come into a desk
abbrev pub new_side : {P : Type 0} → P → DeskSide P
new_side p = first_side (record { number = 0; port = p; counted = no_totals; attached = 0 })

-- a port that is in a desk from the start
abbrev pub in_desk : {P : Type 0} → P → Held P
in_desk p = AtDesk (new_side p)

-- where the tracee of this number sits
abbrev pub place_by : ℕ → List Seat → Option ℕ
place_by n seats = position (λ (seat : Seat). nat_eq seat.tracee.number n) seats

-- a desk in memory
abbrev pub desk_seen : {P : Type 0} (port : PortGhosts P) → Desk P PlainBook PlainAccount port plain.ghosts → DeskState P
desk_seen port desk = place_of port plain.ghosts desk

-- a tracee in memory
abbrev pub seat_seen : Traced PlainBook PlainAccount plain.ghosts → Seat
seat_seen traced = seat_of plain.ghosts traced

-- a desk in memory with its tracees
abbrev pub side_seen : {P : Type 0} (port : PortGhosts P) → Desk P PlainBook PlainAccount port plain.ghosts → Attached → DeskSide P
side_seen port desk attached = record { desk = desk_seen port desk; moment = attached.moment; seats = map seat_seen attached.traced.items }

-- this was done at a desk in memory, and the loans stay as they were
abbrev pub KeepsDesk : {P : Type 0} (port : PortGhosts P) → Desk P PlainBook PlainAccount port plain.ghosts → Desk P PlainBook PlainAccount port plain.ghosts → Type 0 → Type 0
KeepsDesk port old new Did = KeepsLoans port plain.ghosts old new Did
