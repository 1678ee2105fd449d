-- What becomes of a job.
use Rattle.std.specs.Prelude.{◌≡◌, ℕ, ◌+◌, ◌<◌, ◌≤◌, ◌^◌, min, Bool, true, false, List, [], ◌∷◌, ◌++◌, length, take, slice_get, Option, Some, None, Result, Ok, Err, IfSome, vec_len, vec_capacity}
use Rattle.entry_codec.specs.Entries.{Entry, drops_in}
use Rattle.entry_codec.specs.Seen.{views}
use Rattle.trace_message.specs.declared.event.Event.{Event}
use Rattle.trace_message.specs.declared.event.Stamp.{Stamp}
use Rattle.trace_port.specs.Port.{Told}
use Rattle.intake.specs.Emitting.{message_for}
use Rattle.intake.specs.Histories.{History, Begun, Took, carried_of, waiting_after}
use Rattle.intake.specs.Tracees.{waiting_of, capacity_of, SameSetup}
use Rattle.intake.specs.WaitingLists.{messages_in}
use Rattle.intake.specs.declared.fault.EmitFault.{EmitFault}
use Rattle.intake.specs.declared.offer.Offer.{Offer}
use Rattle.intake.specs.declared.tracee.Tracee.{Tracee}
use Rattle.tracees.specs.Books.{added}
use Rattle.tracees.specs.Desks.{DeskState, Seat}
use Rattle.tracees.specs.Effects.{offered_too}
use Rattle.tracees.specs.Emits.{Emits}
use Rattle.tracees.specs.Hands.{HandsOver, FlushesFor, IsBacked, moved_by, receipt_of}
use Rattle.tracees.specs.States.{seat_of}
use Rattle.tracees.specs.declared.book.Bookkeeping.{Ghosts as BookGhosts}
use Rattle.tracees.specs.declared.book.Totals.{Totals}
use Rattle.tracees.specs.declared.job.Act.{Act}
use Rattle.tracees.specs.declared.job.Act.TheVariants as acts
use Rattle.tracees.specs.declared.job.ActFault.{ActFault}
use Rattle.tracees.specs.declared.job.ActFault.TheVariants as faults
use Rattle.tracees.specs.declared.job.Job.{Job}
use Rattle.tracees.specs.declared.job.JobState.{JobState}
use Rattle.tracees.specs.declared.job.JobState.TheVariants as states
use Rattle.tracees.specs.declared.receipt.Receipt.{Receipt}
use Rattle.tracees.specs.declared.receipt.HandFault.{HandFault}

-- ---- one act

-- a hand-over of at most so many entries at a desk in some state, of the tracee's own number, whose book counts no less than the tracee's account
pub record HandsThere {P : Type 0} (told : P → Told) (limit : ℕ) (was is : Seat) (result : Result Receipt HandFault) : Type 0 where
  pub before : DeskState P
  pub after : DeskState P
  pub number : before.number ≡ was.desk
  pub hands : HandsOver told before after limit was is result
  pub backed : IfSome (receipt_of result) (IsBacked was.sums before.counted)

-- the same of a flush for a tracee
pub record FlushesThere {P : Type 0} (told : P → Told) (was is : Seat) (result : Result Receipt HandFault) : Type 0 where
  pub before : DeskState P
  pub after : DeskState P
  pub number : before.number ≡ was.desk
  pub flushes : FlushesFor told before after was is result
  pub backed : IfSome (receipt_of result) (IsBacked was.sums before.counted)

-- an event at the tracee, at no desk
pub record EmitsThere (event : Event) (stamp : Stamp) (was is : Seat) (result : Result Offer EmitFault) : Type 0 where
  pub emits : Emits was.tracee is.tracee event stamp result
  pub desk : is.desk ≡ was.desk
  pub sums : is.sums ≡ was.sums

-- an act was done, and gave these receipts: one for a hand-over or a flush, none for an event
pub data Does {P : Type 0} (told : P → Told) (was is : Seat) : Act → List Receipt → Type 0 where
  emits : {event : Event} {stamp : Stamp} {offer : Offer} → EmitsThere event stamp was is (Ok offer) → Does told was is (acts.Emit event stamp) []
  hands : {limit : ℕ} {receipt : Receipt} → HandsThere told limit was is (Ok receipt) → Does told was is (acts.HandOver limit) (receipt ∷ [])
  flushes : {receipt : Receipt} → FlushesThere told was is (Ok receipt) → Does told was is acts.FlushFor (receipt ∷ [])

-- the receipts that an act gave: one or none
abbrev pub receipts_given : Option Receipt → List Receipt
receipts_given None = []
receipts_given (Some receipt) = receipt ∷ []

-- an act failed
pub data Fails {P : Type 0} (told : P → Told) (was is : Seat) : Act → ActFault → Type 0 where
  emit_fails : {event : Event} {stamp : Stamp} {fault : EmitFault} → EmitsThere event stamp was is (Err fault) → Fails told was is (acts.Emit event stamp) (faults.Emit fault)
  hand_fails : {limit : ℕ} {fault : HandFault} → HandsThere told limit was is (Err fault) → Fails told was is (acts.HandOver limit) (faults.Hand fault)
  flush_fails : {fault : HandFault} → FlushesThere told was is (Err fault) → Fails told was is acts.FlushFor (faults.Hand fault)

-- ---- acts in order

-- one act after another was done, and these are their receipts
pub data Acts {P : Type 0} (told : P → Told) (was : Seat) : List Act → List Receipt → Seat → Type 0 where
  begin : Acts told was [] [] was
  go_on : {acts : List Act} {receipts more : List Receipt} {mid is : Seat} {act : Act} → Acts told was acts receipts mid → Does told mid is act more → Acts told was (acts ++ act ∷ []) (receipts ++ more) is

-- what waits at a tracee after a history since it was in this state
abbrev pub left_after : Tracee → History → List Entry
left_after tracee h = waiting_after (capacity_of tracee) (waiting_of tracee) h

-- what an act adds to the history: the offer of its event's message, where one is asked for, or the taking of at most so many entries
abbrev pub then_act : Tracee → History → Act → History
then_act tracee h (acts.Emit event stamp) = offered_too h (message_for tracee event stamp)
then_act tracee h (acts.HandOver limit) = Took h (min limit (length (left_after tracee h)))
then_act tracee h acts.FlushFor = Took h (length (left_after tracee h))

-- the history of acts, in their order
abbrev pub then_acts : Tracee → History → List Act → History
then_acts tracee h [] = h
then_acts tracee h (act ∷ acts) = then_acts tracee (then_act tracee h act) acts

abbrev pub history_of : Tracee → List Act → History
history_of tracee acts = then_acts tracee Begun acts

-- all entries of receipts
abbrev pub entries_of : List Receipt → List Entry
entries_of [] = []
entries_of (receipt ∷ receipts) = views receipt.entries.items ++ entries_of receipts

-- the receipts of acts: one for each hand-over and each flush, of this desk and tracee; that of a flush covers all its entries
abbrev pub AreReceipts : (desk tracee : ℕ) → List Act → List Receipt → Type 0
AreReceipts desk tracee [] receipts = receipts ≡ []
AreReceipts desk tracee (acts.Emit event stamp ∷ acts) receipts = AreReceipts desk tracee acts receipts
AreReceipts desk tracee (acts.HandOver limit ∷ acts) [] = ⊥
AreReceipts desk tracee (acts.HandOver limit ∷ acts) (receipt ∷ receipts) = (receipt.desk ≡ desk) × (receipt.tracee ≡ tracee) × AreReceipts desk tracee acts receipts
AreReceipts desk tracee (acts.FlushFor ∷ acts) [] = ⊥
AreReceipts desk tracee (acts.FlushFor ∷ acts) (receipt ∷ receipts) =
    (receipt.desk ≡ desk) × (receipt.tracee ≡ tracee) × (receipt.covered ≡ receipt.first + length receipt.entries.items) × AreReceipts desk tracee acts receipts

-- the messages that an account holds as flushed, of so many that it held and so many that were flushed before these acts: all that it held at the last flush
abbrev pub flushed_after : (held flushed : ℕ) → List Act → List Receipt → ℕ
flushed_after held flushed [] receipts = flushed
flushed_after held flushed (acts.Emit event stamp ∷ acts) receipts = flushed_after held flushed acts receipts
flushed_after held flushed (acts.HandOver limit ∷ acts) [] = flushed
flushed_after held flushed (acts.HandOver limit ∷ acts) (receipt ∷ receipts) = flushed_after (held + messages_in (views receipt.entries.items)) flushed acts receipts
flushed_after held flushed (acts.FlushFor ∷ acts) [] = flushed
flushed_after held flushed (acts.FlushFor ∷ acts) (receipt ∷ receipts) =
    flushed_after (held + messages_in (views receipt.entries.items)) (held + messages_in (views receipt.entries.items)) acts receipts

-- an account grew by what these receipts of acts tell, and by nothing else
pub record HasGrown (was is : Totals) (done : List Act) (given : List Receipt) : Type 0 where
  pub messages : is.messages ≡ was.messages + messages_in (entries_of given)
  pub drops : is.drops ≡ was.drops + drops_in (entries_of given)
  pub flushed : is.flushed ≡ flushed_after was.messages was.flushed done given

-- these acts were done, with these receipts
pub record Did {P : Type 0} (told : P → Told) (was is : Seat) (done : List Act) (given : List Receipt) : Type 0 where
  pub acted : Acts told was done given is
  pub carried : entries_of given ≡ carried_of (capacity_of was.tracee) (waiting_of was.tracee) (history_of was.tracee done)
  pub waits : waiting_of is.tracee ≡ left_after was.tracee (history_of was.tracee done)
  pub receipts : AreReceipts was.desk was.tracee.number done given
  pub account : HasGrown was.sums is.sums done given

-- the entries of a receipt inside a fault
abbrev pub entries_in : ActFault → List Entry
entries_in (faults.Emit fault) = []
entries_in (faults.Hand fault) = moved_by (Err fault)

-- the acts before this index were done, and the one there failed; a receipt inside its fault is counted too
pub record FailedAt {P : Type 0} (told : P → Told) (was is : Seat) (asked : List Act) (given : List Receipt) (place : ℕ) (fault : ActFault) : Type 0 where
  pub act : Act
  pub mid : Seat
  pub there : slice_get asked place ≡ Some act
  pub before : Did told was mid (take place asked) given
  pub fails : Fails told mid is act fault
  pub carried : entries_of given ++ entries_in fault ≡ carried_of (capacity_of was.tracee) (waiting_of was.tracee) (Took (history_of was.tracee (take place asked)) (length (entries_in fault)))
  pub waits : waiting_of is.tracee ≡ left_after was.tracee (Took (history_of was.tracee (take place asked)) (length (entries_in fault)))
  pub account : is.sums ≡ added mid.sums (entries_in fault)

-- how a job ended: all its acts were done, or those before the shut one, or those before the failed one
abbrev pub Ended : {P : Type 0} → (P → Told) → Seat → Seat → List Act → List Receipt → JobState → Type 0
Ended told was is acts receipts states.Ready = ⊥
Ended told was is acts receipts states.Finished = Did told was is acts receipts
Ended told was is acts receipts (states.Shut place) = (place < length acts) × Did told was is (take place acts) receipts
Ended told was is acts receipts (states.Failed place fault) = FailedAt told was is acts receipts place fault

-- ---- the gate of a job, by what it answers before an act and what it is told after one

-- an act of this index came to its gate: it was let through, whatever came of it, and its end was told; or it wasn't let through
abbrev pub IsPassed : {A : Type 0} → (ℕ → Bool → Type 0) → (ℕ → Type 0) → ℕ → Option A → Type 0
IsPassed answers ends place (Some done) = answers place true × ends place
IsPassed answers ends place None = answers place false

-- it let each act before this index through, and was told of its end
abbrev pub AreLetThrough : (ℕ → Bool → Type 0) → (ℕ → Type 0) → ℕ → Type 0
AreLetThrough answers ends place = (act : ℕ) → act < place → answers act true × ends act

-- a job of so many acts went by its gate: each act that was done or failed was let through, and its end was told; before the shut one the gate was asked, and didn't let it through
abbrev pub GoesBy : (ℕ → Bool → Type 0) → (ℕ → Type 0) → ℕ → JobState → Type 0
GoesBy answers ends acts states.Ready = ⊥
GoesBy answers ends acts states.Finished = AreLetThrough answers ends acts
GoesBy answers ends acts (states.Shut place) = AreLetThrough answers ends place × answers place false
GoesBy answers ends acts (states.Failed place fault) = AreLetThrough answers ends (place + 1)

-- ---- jobs

-- what became of a job under a gate that answers so for each tracee and act, and is told so
pub record HasRun {P K S : Type 0} {keep : BookGhosts K S} (told : P → Told) (answers : ℕ → ℕ → Bool → Type 0) (ends : ℕ → ℕ → Type 0) (old new : Job K S keep) : Type 0 where
  pub acts : new.acts.items ≡ old.acts.items
  pub desk : new.traced.desk ≡ old.traced.desk
  pub setup : SameSetup old.traced.tracee new.traced.tracee
  pub ended : Ended told (seat_of keep old.traced) (seat_of keep new.traced) old.acts.items new.receipts.items new.state
  pub gate : GoesBy (answers old.traced.tracee.number) (ends old.traced.tracee.number) (length old.acts.items) new.state

-- it may be run: it has no receipts, and its acts can be numbered
pub record IsReady {K S : Type 0} {keep : BookGhosts K S} (job : Job K S keep) : Type 0 where
  pub state : job.state ≡ states.Ready
  pub receipts : job.receipts.items ≡ []
  pub few : vec_len job.acts < 2 ^ 32

-- it is as it was, but for the room of its receipts
pub record IsSameJob {K S : Type 0} {keep : BookGhosts K S} (old new : Job K S keep) : Type 0 where
  pub traced : new.traced ≡ old.traced
  pub acts : new.acts ≡ old.acts
  pub receipts : new.receipts.items ≡ old.receipts.items
  pub state : new.state ≡ old.state

-- it may be run, and has room for a receipt of each act
pub record HasRoom {K S : Type 0} {keep : BookGhosts K S} (job : Job K S keep) : Type 0 where
  pub receipts : job.receipts.items ≡ []
  pub few : vec_len job.acts < 2 ^ 32
  pub room : vec_len job.acts ≤ vec_capacity job.receipts

-- it has room for a receipt of each act beside those that it has
abbrev pub IsReserved : {K S : Type 0} {keep : BookGhosts K S} → Job K S keep → Type 0
IsReserved job = vec_len job.receipts + vec_len job.acts ≤ vec_capacity job.receipts
