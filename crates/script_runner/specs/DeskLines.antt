-- What a line for a desk asks of it, and what may come of it.
use Rattle.std.specs.Prelude.{◌≡◌, ◌≢◌, ◌⊎◌, ℕ, ◌+◌, ◌<◌, ℤ, false, [], ◌∷◌, ◌++◌, set, slice_get, Some, None, Result, codes}
use Rattle.trace_message.specs.declared.event.Event.{Event}
use Rattle.trace_message.specs.declared.event.Flags.{Flags}
use Rattle.trace_message.specs.declared.event.Stamp.{Stamp}
use Rattle.trace_port.specs.Port.{Told}
use Rattle.intake.specs.Tracees.{waiting_of, capacity_of, counts_of}
use Rattle.intake.specs.declared.fault.EmitFault.{EmitFault}
use Rattle.intake.specs.declared.fault.TraceeFault.{TraceeFault}
use Rattle.intake.specs.declared.fault.TraceeFault.TheVariants.{BadSpec, NoMemory}
use Rattle.intake.specs.declared.offer.Offer.{Offer}
use Rattle.intake.specs.declared.tracee.Tracee.{Tracee}
use Rattle.tracees.specs.Books.{no_totals}
use Rattle.tracees.specs.Desks.{DeskState, Seat}
use Rattle.trace_port.specs.Effects.{Effect, effect, no_effect}
use Rattle.tracees.specs.Emits.{Emits}
use Rattle.tracees.specs.Hands.{HandsOver, FlushesFor, items_moved, has_gone}
use Rattle.tracees.specs.declared.receipt.HandFault.{HandFault}
use Rattle.tracees.specs.declared.receipt.Receipt.{Receipt}
use Rattle.script_runner.specs.declared.answer.Answer.{Answer}
use Rattle.script_runner.specs.declared.answer.Answer.TheVariants as answers
use Rattle.script_lines.specs.declared.desk_line.DeskLine.{DeskLine}
use Rattle.script_lines.specs.declared.desk_line.DeskLine.TheVariants as desk_lines
use Rattle.script_lines.specs.declared.desk_line.TraceeLine.{TraceeLine}
use Rattle.script_lines.specs.declared.desk_line.TraceeLine.TheVariants as tracee_lines
use Rattle.script_runner.specs.declared.refusal.Refusal.TheVariants as refusals
use Rattle.script_runner.specs.Answers.{emit_answer, hand_answer, flush_for_answer}
use Rattle.script_runner.specs.Sides.{DeskSide, place_by}

-- a tracee is asked what the line says, and nothing else: what comes of it at its desk and its seat, how it is answered, and what the desk's port accepted and covered then
pub data IsAskedFor {P : Type 0} (told : P → Told) (old : DeskState P) (moment : Stamp) (was : Seat) : DeskState P → Seat → TraceeLine → Answer → Effect → Type 0 where
  emits : {event : Event} {tracee : Tracee} (result : Result Offer EmitFault) → Emits was.tracee tracee event moment result
      → IsAskedFor told old moment was old (record was { tracee = tracee }) (tracee_lines.Emit event) (emit_answer result) no_effect
  hands_over : {limit : ℕ} {new : DeskState P} {is : Seat} (result : Result Receipt HandFault) → HandsOver told old new limit was is result
      → IsAskedFor told old moment was new is (tracee_lines.Hand limit) (hand_answer result) (effect (items_moved result) false)
  flushes_for : {new : DeskState P} {is : Seat} (result : Result Receipt HandFault) → FlushesFor told old new was is result
      → IsAskedFor told old moment was new is tracee_lines.FlushFor (flush_for_answer result) (effect (items_moved result) (has_gone result))
  counts : IsAskedFor told old moment was old was tracee_lines.Counts (answers.Counts (counts_of was.tracee)) no_effect

-- a tracee as a line asks for it, to which nothing has come
pub record IsNew (n room limit : ℕ) (asked : Flags) (tracee : Tracee) : Type 0 where
  pub number : tracee.number ≡ n
  pub pid : tracee.pid ≡ record { node = codes "nonode@nohost"; id = 80 + n; serial = 0; creation = 0 }
  pub flags : tracee.flags ≡ asked
  pub capacity : capacity_of tracee ≡ room
  pub drop_limit : tracee.drop_limit ≡ limit
  pub empty : waiting_of tracee ≡ []
  pub counts : counts_of tracee ≡ record { offered = 0; waiting = 0; unsent = 0; handed = 0; lost = 0 }

-- no tracee may have this capacity or this limit of drops
abbrev pub IsBadSpec : ℕ → ℕ → Type 0
IsBadSpec capacity drop_limit = (capacity ≡ 0) ⊎ (65536 < capacity) ⊎ (drop_limit ≡ 0)

-- when there may be no tracee for this fault
abbrev pub IsDue : TraceeFault → ℕ → ℕ → Type 0
IsDue BadSpec capacity drop_limit = IsBadSpec capacity drop_limit
IsDue NoMemory capacity drop_limit = Unit {0}

-- with this tracee after the others, and an account that counts nothing
abbrev pub with_tracee : {P : Type 0} → DeskSide P → Tracee → DeskSide P
with_tracee side tracee = record side {
  desk = record side.desk { attached = side.desk.attached + 1 };
  seats = side.seats ++ record { desk = side.desk.number; tracee = tracee; sums = no_totals } ∷ [];
}

-- a desk is asked what the line says, and nothing else: how it is answered, and what its port accepted and covered then
pub data IsAskedAtDesk {P : Type 0} (told : P → Told) (old : DeskSide P) : DeskSide P → DeskLine → Answer → Effect → Type 0 where
  stamps : {mega sec micro : ℕ} → IsAskedAtDesk told old (record old { moment = record { mega = mega; sec = sec; micro = micro; mono = old.moment.mono } }) (desk_lines.Stamp mega sec micro) answers.Done no_effect
  times : {mono : ℤ} → IsAskedAtDesk told old (record old { moment = record old.moment { mono = mono } }) (desk_lines.Mono mono) answers.Done no_effect
  attaches : {n capacity drop_limit : ℕ} {flags : Flags} {tracee : Tracee} → place_by n old.seats ≡ None → (IsBadSpec capacity drop_limit → ⊥) → IsNew n capacity drop_limit flags tracee
      → IsAskedAtDesk told old (with_tracee old tracee) (desk_lines.Tracee n capacity drop_limit flags) answers.Done no_effect
  not_attached : {n capacity drop_limit : ℕ} {flags : Flags} {fault : TraceeFault} → place_by n old.seats ≡ None → IsDue fault capacity drop_limit
      → IsAskedAtDesk told old old (desk_lines.Tracee n capacity drop_limit flags) (answers.Refused (refusals.Tracee fault)) no_effect
  -- a tracee of this number is there already
  is_there : {n capacity drop_limit : ℕ} {flags : Flags} → place_by n old.seats ≢ None → IsAskedAtDesk told old old (desk_lines.Tracee n capacity drop_limit flags) answers.OutOfOrder no_effect
  asks_for : {n place : ℕ} {line : TraceeLine} {answer : Answer} {did : Effect} {desk : DeskState P} {was is : Seat} → place_by n old.seats ≡ Some place → slice_get old.seats place ≡ Some was
      → IsAskedFor told old.desk old.moment was desk is line answer did
      → IsAskedAtDesk told old (record { desk = desk; moment = old.moment; seats = set old.seats place is }) (desk_lines.OfTracee n line) answer did
  -- no tracee of this number is there
  is_missing : {n : ℕ} {line : TraceeLine} → place_by n old.seats ≡ None → IsAskedAtDesk told old old (desk_lines.OfTracee n line) answers.OutOfOrder no_effect
