-- What a lender knows of a port that went through a desk.
use Rattle.std.specs.Prelude.{◌≡◌, ℕ, Result}
use Rattle.trace_store.specs.Device.{Device, IsIdle}
use Rattle.trace_port.specs.Port.{Told, Ends}
use Rattle.trace_port.specs.Opened.{IsAsOpened}
use Rattle.trace_port.specs.PortCalls.{Finishes}
use Rattle.intake.specs.declared.tracee.Tracee.{Tracee}
use Rattle.tracees.specs.Books.{no_totals}
use Rattle.tracees.specs.Desks.{DeskState, Seat}
use Rattle.tracees.specs.Hands.{HandsOver}
use Rattle.tracees.specs.declared.receipt.Receipt.{Receipt}
use Rattle.tracees.specs.declared.receipt.HandFault.{HandFault}

-- a tracee that was just attached at the desk of this number
abbrev pub first_seat : ℕ → Tracee → Seat
first_seat number tracee = record { desk = number; tracee = tracee; sums = no_totals }

-- a desk of this number over the port handed over at most so many entries of a tracee, and its end was the port's end
pub record HandsOne {P : Type 0} (told : P → Told) (number : ℕ) (old new : P) (limit : ℕ) (was is : Tracee) (result : Result Receipt HandFault) : Type 0 where
  pub first : DeskState P
  pub between : DeskState P
  pub seat : Seat
  pub number_is : first.number ≡ number
  pub port : first.port ≡ old
  pub counted : first.counted ≡ no_totals
  pub hands : HandsOver told first between limit (first_seat number was) seat result
  pub tracee : is ≡ seat.tracee
  pub finishes : Finishes (told between.port) (told new)

-- a port was made of an opening, the desk 0 over it handed over at most so many entries of a tracee, and then the port was dropped
pub record RecordsOne {P : Type 0} (told : P → Told) (opening : Told) (last : Device) (limit : ℕ) (was is : Tracee) (result : Result Receipt HandFault) : Type 0 where
  pub port : P
  pub end : P
  pub as_opened : IsAsOpened opening (told port)
  pub at_first : IsIdle opening.device (told port).device
  pub hands : HandsOne told 0 port end limit was is result
  pub drops : Ends (told end) last
