-- What an emit answers and changes, put together.
use Rattle.std.specs.Prelude.{◌≡◌, ◌↔◌, None, Result, Ok, Err, IfSome, IsSomeAnd}
use Rattle.ext_format.specs.Canonical.{canonical}
use Rattle.trace_message.specs.declared.event.Event.{Event}
use Rattle.trace_message.specs.declared.event.Stamp.{Stamp}
use Rattle.intake.specs.Emitting.{message_for, IsTooDeep, IsTooLong, FitsEntry, HasRoom, IsFull, MayCount, MayDrop, IsCountFull, offered_by, ComesWhere}
use Rattle.intake.specs.Passed.{AddsOffer}
use Rattle.intake.specs.Steps.{Keeps, Drops}
use Rattle.intake.specs.Tracees.{waiting_of, CountsGrow, SameSetup}
use Rattle.intake.specs.declared.fault.EmitFault.{EmitFault}
use Rattle.intake.specs.declared.fault.EmitFault.TheVariants as faults
use Rattle.intake.specs.declared.offer.Offer.{Offer}
use Rattle.intake.specs.declared.offer.Offer.TheVariants as offers
use Rattle.intake.specs.declared.tracee.Tracee.{Tracee}

pub record Emits (old new : Tracee) (event : Event) (stamp : Stamp) (result : Result Offer EmitFault) : Type 0 where
  pub unasked : (result ≡ Ok offers.Unasked) ↔ (message_for old event stamp ≡ None)
  pub too_deep : ComesWhere result (Err faults.TooDeep) (IsSomeAnd (message_for old event stamp) IsTooDeep)
  pub too_long : ComesWhere result (Err faults.TooLong) (IsSomeAnd (message_for old event stamp) IsTooLong)
  pub count_full : ComesWhere result (Err faults.CountFull) (IsSomeAnd (message_for old event stamp) FitsEntry × IsCountFull old)
  pub kept : ComesWhere result (Ok offers.Kept) (IsSomeAnd (message_for old event stamp) FitsEntry × MayCount old × HasRoom old)
  pub dropped : ComesWhere result (Ok offers.Dropped) (IsSomeAnd (message_for old event stamp) FitsEntry × MayCount old × IsFull old × MayDrop old)
  pub no_memory : result ≡ Err faults.NoMemory → IsSomeAnd (message_for old event stamp) FitsEntry
  pub keeps : result ≡ Ok offers.Kept → IfSome (message_for old event stamp) (λ message. Keeps (canonical message) (waiting_of old) (waiting_of new))
  pub drops : result ≡ Ok offers.Dropped → Drops (waiting_of old) (waiting_of new)
  pub stays : offered_by result ≡ 0 → waiting_of new ≡ waiting_of old
  pub counts : CountsGrow (offered_by result) 0 0 old new
  pub setup : SameSetup old new
  pub history : offered_by result ≡ 1 → IfSome (message_for old event stamp) (λ message. AddsOffer (canonical message) old new)
