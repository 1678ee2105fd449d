-- What the steps of a run answer, and what they change.
use Rattle.std.specs.Prelude.{◌≡◌, ℕ, Bool, List, [], ◌∷◌, set, slice_get, Some, None, Result, Ok, Err}
use Rattle.trace_message.specs.declared.event.Event.{Event}
use Rattle.trace_message.specs.declared.event.Stamp.{Stamp}
use Rattle.trace_port.specs.Port.{Told}
use Rattle.trace_port.specs.PortCalls.{Flushes, Seals, Ticks}
use Rattle.trace_port.specs.declared.fault.PortFault.{PortFault}
use Rattle.intake.specs.declared.offer.Offer.{Offer}
use Rattle.intake.specs.declared.fault.EmitFault.{EmitFault}
use Rattle.tracees.specs.Desks.{DeskState, Seat, SameBook}
use Rattle.tracees.specs.Emits.{Emits}
use Rattle.tracees.specs.Hands.{HandsOver, FlushesFor}
use Rattle.tracees.specs.declared.receipt.Receipt.{Receipt}
use Rattle.tracees.specs.declared.receipt.HandFault.{HandFault}
use Rattle.tracees.specs.declared.step.Step.{Step}
use Rattle.tracees.specs.declared.step.Step.TheVariants as steps
use Rattle.tracees.specs.declared.step.Reply.{Reply}
use Rattle.tracees.specs.declared.step.Reply.TheVariants as replies

-- each desk and each tracee, by its index
pub record State (P : Type 0) : Type 0 where
  pub desks : List (DeskState P)
  pub tracees : List Seat

-- how the answers of calls are told
abbrev pub offer_reply : Result Offer EmitFault → Reply
offer_reply (Ok offer) = replies.Offer offer
offer_reply (Err fault) = replies.EmitRefused fault

abbrev pub hand_reply : Result Receipt HandFault → Reply
hand_reply (Ok receipt) = replies.Receipt receipt
hand_reply (Err fault) = replies.HandRefused fault

abbrev pub flush_reply : Result ℕ PortFault → Reply
flush_reply (Ok covered) = replies.Flushed covered
flush_reply (Err fault) = replies.PortRefused fault

abbrev pub seal_reply : Result Unit PortFault → Reply
seal_reply (Ok done) = replies.Sealed
seal_reply (Err fault) = replies.PortRefused fault

abbrev pub tick_reply : Result Bool PortFault → Reply
tick_reply (Ok cut) = replies.Ticked cut
tick_reply (Err fault) = replies.PortRefused fault

-- the desk of this index goes from one value to another, and the others stay
pub record ActsOn {P : Type 0} (old new : State P) (place : ℕ) (p q : DeskState P) : Type 0 where
  pub there : slice_get old.desks place ≡ Some p
  pub others : new.desks ≡ set old.desks place q

-- the same of a tracee
pub record ActsFor {P : Type 0} (old new : State P) (place : ℕ) (was is : Seat) : Type 0 where
  pub there : slice_get old.tracees place ≡ Some was
  pub others : new.tracees ≡ set old.tracees place is

-- an event at a tracee, which touches nothing else
pub record EmitsAt {P : Type 0} (old new : State P) (tracee : ℕ) (event : Event) (stamp : Stamp) (result : Result Offer EmitFault) (was is : Seat) : Type 0 where
  pub acts : ActsFor old new tracee was is
  pub desks : new.desks ≡ old.desks
  pub emits : Emits was.tracee is.tracee event stamp result
  pub desk : is.desk ≡ was.desk
  pub sums : is.sums ≡ was.sums

-- a step at a desk alone
pub record ActsAlone {P : Type 0} (old new : State P) (place : ℕ) (p q : DeskState P) : Type 0 where
  pub acts : ActsOn old new place p q
  pub tracees : new.tracees ≡ old.tracees
  pub book : SameBook p q

-- there is no such tracee, or no such desk
abbrev pub NoTracee : {P : Type 0} → State P → ℕ → Type 0
NoTracee state place = slice_get state.tracees place ≡ None

abbrev pub NoDesk : {P : Type 0} → State P → ℕ → Type 0
NoDesk state place = slice_get state.desks place ≡ None

-- there is no such tracee, or not its desk
pub data NoSeat {P : Type 0} (state : State P) (place : ℕ) : Type 0 where
  nobody : NoTracee state place → NoSeat state place
  nowhere : (seat : Seat) → slice_get state.tracees place ≡ Some seat → NoDesk state seat.desk → NoSeat state place

-- from old, a step may be answered so and lead to new
pub data IsStep {P : Type 0} (told : P → Told) (old new : State P) : Step → Reply → Type 0 where
  emits : {tracee : ℕ} {event : Event} {stamp : Stamp} {reply : Reply} (result : Result Offer EmitFault) (was is : Seat) → EmitsAt old new tracee event stamp result was is
      → reply ≡ offer_reply result → IsStep told old new (steps.Emit tracee event stamp) reply
  hands_over : {tracee limit : ℕ} {reply : Reply} (result : Result Receipt HandFault) (was is : Seat) (p q : DeskState P)
      → ActsFor old new tracee was is → ActsOn old new was.desk p q → p.number ≡ was.desk → HandsOver told p q limit was is result
      → reply ≡ hand_reply result → IsStep told old new (steps.HandOver tracee limit) reply
  flushes_for : {tracee : ℕ} {reply : Reply} (result : Result Receipt HandFault) (was is : Seat) (p q : DeskState P)
      → ActsFor old new tracee was is → ActsOn old new was.desk p q → p.number ≡ was.desk → FlushesFor told p q was is result
      → reply ≡ hand_reply result → IsStep told old new (steps.FlushFor tracee) reply
  flushes : {desk : ℕ} {reply : Reply} (result : Result ℕ PortFault) (p q : DeskState P) → ActsAlone old new desk p q → Flushes (told p.port) (told q.port) result
      → reply ≡ flush_reply result → IsStep told old new (steps.Flush desk) reply
  seals : {desk : ℕ} {reply : Reply} (result : Result Unit PortFault) (p q : DeskState P) → ActsAlone old new desk p q → Seals (told p.port) (told q.port) result
      → reply ≡ seal_reply result → IsStep told old new (steps.Seal desk) reply
  ticks : {desk now : ℕ} {reply : Reply} (result : Result Bool PortFault) (p q : DeskState P) → ActsAlone old new desk p q → Ticks (told p.port) (told q.port) now result
      → reply ≡ tick_reply result → IsStep told old new (steps.Tick desk now) reply
  -- an index that isn't there
  emit_unknown : {tracee : ℕ} {event : Event} {stamp : Stamp} → NoTracee old tracee → new ≡ old → IsStep told old new (steps.Emit tracee event stamp) replies.Unknown
  hand_unknown : {tracee limit : ℕ} → NoSeat old tracee → new ≡ old → IsStep told old new (steps.HandOver tracee limit) replies.Unknown
  flush_for_unknown : {tracee : ℕ} → NoSeat old tracee → new ≡ old → IsStep told old new (steps.FlushFor tracee) replies.Unknown
  flush_unknown : {desk : ℕ} → NoDesk old desk → new ≡ old → IsStep told old new (steps.Flush desk) replies.Unknown
  seal_unknown : {desk : ℕ} → NoDesk old desk → new ≡ old → IsStep told old new (steps.Seal desk) replies.Unknown
  tick_unknown : {desk now : ℕ} → NoDesk old desk → new ≡ old → IsStep told old new (steps.Tick desk now) replies.Unknown

-- one step after another
pub data Run {P : Type 0} (told : P → Told) : State P → List Step → List Reply → State P → Type 0 where
  ends : {s : State P} → Run told s [] [] s
  goes_on : {old mid new : State P} {step : Step} {steps : List Step} {reply : Reply} {replies : List Reply}
      → IsStep told old mid step reply → Run told mid steps replies new → Run told old (step ∷ steps) (reply ∷ replies) new

-- the desk of index i has the number i
abbrev pub AreNumbered : {P : Type 0} → State P → Type 0
AreNumbered {P} state = (i : ℕ) (p : DeskState P) → slice_get state.desks i ≡ Some p → p.number ≡ i
