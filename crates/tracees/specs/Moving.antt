-- One entry on its way from a tracee into a port.
use Rattle.std.specs.Prelude.{◌≡◌, ◌≢◌, ℕ, List, [], ◌∷◌, ◌++◌, Option, Some, None, Result, Ok, Err}
use Rattle.entry_codec.specs.Entries.{Entry, lost_by}
use Rattle.trace_port.specs.Port.{Told}
use Rattle.trace_port.specs.PortCalls.{Accepts}
use Rattle.trace_port.specs.declared.fault.PortFault.{PortFault}
use Rattle.trace_port.specs.declared.fault.PortFault.TheVariants as faults
use Rattle.intake.specs.WaitingLists.{messages_in}
use Rattle.intake.specs.Tracees.{waiting_of, CountsGrow, SameSetup}
use Rattle.intake.specs.declared.tracee.Tracee.{Tracee}
use Rattle.tracees.specs.declared.receipt.HandFault.{HandFault}
use Rattle.tracees.specs.declared.receipt.HandFault.TheVariants as hands

-- the entry left what waits, and comes after those that moved before
pub record HasMoved (e : Entry) (was is : Tracee) (moved moved' : List Entry) : Type 0 where
  pub rest : waiting_of was ≡ e ∷ waiting_of is
  pub counts : CountsGrow 0 (messages_in (e ∷ [])) (lost_by e) was is
  pub behind : moved' ≡ moved ++ e ∷ []

-- it waits as before
pub record HasStayed (was is : Tracee) (moved moved' : List Entry) : Type 0 where
  pub rest : waiting_of is ≡ waiting_of was
  pub counts : CountsGrow 0 0 0 was is
  pub same : moved' ≡ moved

-- an entry that was accepted, or that the device failed to keep, has moved; every other stays
abbrev pub IsPassed : Entry → Tracee → Tracee → List Entry → List Entry → Result ℕ PortFault → Type 0
IsPassed e was is moved moved' (Ok number) = HasMoved e was is moved moved'
IsPassed e was is moved moved' (Err faults.Device) = HasMoved e was is moved moved'
IsPassed e was is moved moved' (Err faults.Broken) = HasStayed was is moved moved'
IsPassed e was is moved moved' (Err faults.Sealed) = HasStayed was is moved moved'
IsPassed e was is moved moved' (Err faults.CountFull) = HasStayed was is moved moved'
IsPassed e was is moved moved' (Err faults.FileFull) = HasStayed was is moved moved'

-- the entry at the front was offered to the port
pub record Offers (old new : Told) (tracee : Tracee) (e : Entry) (result : Result ℕ PortFault) : Type 0 where
  pub behind : List Entry
  pub front : waiting_of tracee ≡ e ∷ behind
  pub accepts : Accepts old new e result

-- nothing waits, and nothing was done; or the entry at the front was offered
abbrev pub OffersFront : {P : Type 0} → (P → Told) → P → P → Tracee → Option (Result ℕ PortFault) → Type 0
OffersFront told old new tracee None = (waiting_of tracee ≡ []) × (new ≡ old)
OffersFront told old new tracee (Some result) = (e : Entry) × Offers (told old) (told new) tracee e result

-- the entry at the front was offered, and moved unless it was refused
pub record MovesOne (old new : Told) (was is : Tracee) (moved moved' : List Entry) (result : Result ℕ PortFault) : Type 0 where
  pub entry : Entry
  pub offers : Offers old new was entry result
  pub passed : IsPassed entry was is moved moved' result
  pub setup : SameSetup was is

-- nothing waits, and nothing was done
pub record MovesNone {P : Type 0} (old new : P) (was is : Tracee) (moved moved' : List Entry) : Type 0 where
  pub nothing : waiting_of was ≡ []
  pub port : new ≡ old
  pub stayed : HasStayed was is moved moved'
  pub setup : SameSetup was is

-- why there is no room for a hand-over at a desk of this number, of a tracee that is attached at the desk of that number
abbrev pub HasNoRoom : (attached number : ℕ) → HandFault → Type 0
HasNoRoom attached number (hands.Port fault receipt) = ⊥
HasNoRoom attached number hands.NoMemory = attached ≡ number
HasNoRoom attached number hands.Stranger = attached ≢ number

-- one or the other
abbrev pub MovesFront : {P : Type 0} → (P → Told) → P → P → Tracee → Tracee → List Entry → List Entry → Option (Result ℕ PortFault) → Type 0
MovesFront told old new was is moved moved' None = MovesNone old new was is moved moved'
MovesFront told old new was is moved moved' (Some result) = MovesOne (told old) (told new) was is moved moved' result
