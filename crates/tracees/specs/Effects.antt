-- What the replies of a run tell of one desk, and of one tracee.
use Rattle.std.specs.Prelude.{ℕ, Bool, true, false, nat_eq, if◌then◌else◌, List, [], ◌∷◌, ◌++◌, length, map, Option, Some, None, Ok, Err}
use Rattle.ext_format.specs.Canonical.{canonical}
use Rattle.entry_codec.specs.Entries.{Entry}
use Rattle.entry_codec.specs.Seen.{views}
use Rattle.recovery.specs.Items.{Kept, Cut}
use Rattle.trace_terms.specs.Data.{Data}
use Rattle.trace_port.specs.Effects.{Effect, effect, no_effect}
use Rattle.trace_port.specs.declared.fault.PortFault.TheVariants as faults
use Rattle.intake.specs.Emitting.{message_for}
use Rattle.intake.specs.Histories.{History, Offered, Took}
use Rattle.intake.specs.declared.offer.Offer.TheVariants as offers
use Rattle.intake.specs.declared.tracee.Tracee.{Tracee}
use Rattle.tracees.specs.Hands.{receipt_of, receipted}
use Rattle.tracees.specs.declared.receipt.Receipt.{Receipt}
use Rattle.tracees.specs.declared.step.Step.{Step}
use Rattle.tracees.specs.declared.step.Step.TheVariants as steps
use Rattle.tracees.specs.declared.step.Reply.{Reply}
use Rattle.tracees.specs.declared.step.Reply.TheVariants as replies

-- the receipt of a reply, also that inside a refusal
abbrev pub receipt_in : Reply → Option Receipt
receipt_in (replies.Receipt receipt) = receipt_of (Ok receipt)
receipt_in (replies.HandRefused fault) = receipt_of (Err fault)
receipt_in _ = None

-- what a receipt says of the desk of this number
abbrev pub received : ℕ → Bool → Option Receipt → Effect
received place covers None = no_effect
received place covers (Some receipt) = if nat_eq receipt.desk place then effect (map Kept (views receipt.entries.items)) covers else no_effect

-- a hand-over's reply tells of all that it was to do
abbrev pub is_receipt : Reply → Bool
is_receipt (replies.Receipt receipt) = true
is_receipt _ = false

-- a flush or a seal was acknowledged
abbrev pub is_acknowledged : Reply → Bool
is_acknowledged (replies.Flushed covered) = true
is_acknowledged replies.Sealed = true
is_acknowledged _ = false

-- a cut was accepted: also one that the device couldn't finish
abbrev pub has_cut : Reply → Bool
has_cut (replies.Ticked cut) = cut
has_cut (replies.PortRefused faults.Device) = true
has_cut _ = false

-- what a step with its reply did at the desk of this index
abbrev pub effect_at : ℕ → Step → Reply → Effect
effect_at place (steps.Emit tracee event stamp) reply = no_effect
effect_at place (steps.HandOver tracee limit) reply = received place false (receipt_in reply)
effect_at place (steps.FlushFor tracee) reply = received place (is_receipt reply) (receipt_in reply)
effect_at place (steps.Flush desk) reply = if nat_eq desk place then effect [] (is_acknowledged reply) else no_effect
effect_at place (steps.Seal desk) reply = if nat_eq desk place then effect [] (is_acknowledged reply) else no_effect
effect_at place (steps.Tick desk now) reply = if nat_eq desk place then effect (if has_cut reply then Cut ∷ [] else []) false else no_effect

-- the same of all steps, in their order: its items are what the desk accepted
abbrev pub effects_at : ℕ → List Step → List Reply → List Effect
effects_at place (step ∷ steps) (reply ∷ replies) = effect_at place step reply ∷ effects_at place steps replies
effects_at place _ _ = []

-- a message was kept or dropped
abbrev pub is_offered : Reply → Bool
is_offered (replies.Offer offers.Kept) = true
is_offered (replies.Offer offers.Dropped) = true
is_offered _ = false

-- the history of a tracee with the offer of this message
abbrev pub offered_too : History → Option Data → History
offered_too h None = h
offered_too h (Some message) = Offered h (canonical message)

-- what a step with its reply adds to the history of the tracee of this index
abbrev pub history_by : ℕ → Tracee → History → Step → Reply → History
history_by place tracee h (steps.Emit at event stamp) reply =
    if nat_eq at place then (if is_offered reply then offered_too h (message_for tracee event stamp) else h) else h
history_by place tracee h (steps.HandOver at limit) reply = if nat_eq at place then Took h (length (receipted (receipt_in reply))) else h
history_by place tracee h (steps.FlushFor at) reply = if nat_eq at place then Took h (length (receipted (receipt_in reply))) else h
history_by place tracee h _ reply = h

-- its history after all steps
abbrev pub history_after : ℕ → Tracee → History → List Step → List Reply → History
history_after place tracee h (step ∷ steps) (reply ∷ replies) = history_after place tracee (history_by place tracee h step reply) steps replies
history_after place tracee h _ _ = h

-- the entries that were taken from it
abbrev pub carried_by : ℕ → Step → Reply → List Entry
carried_by place (steps.HandOver at limit) reply = if nat_eq at place then receipted (receipt_in reply) else []
carried_by place (steps.FlushFor at) reply = if nat_eq at place then receipted (receipt_in reply) else []
carried_by place _ reply = []

-- in the order of the steps
abbrev pub carried : ℕ → List Step → List Reply → List Entry
carried place (step ∷ steps) (reply ∷ replies) = carried_by place step reply ++ carried place steps replies
carried place _ _ = []
