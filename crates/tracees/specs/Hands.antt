-- What a hand-over moves, what its receipt says, and what a flush for a tracee adds.
use Rattle.std.specs.Prelude.{◌≡◌, ◌≢◌, ℕ, ◌≤◌, Bool, true, false, List, [], ◌∷◌, ◌++◌, take, map, Option, Some, None, Result, Ok, Err}
use Rattle.entry_codec.specs.Entries.{Entry, drops_in}
use Rattle.entry_codec.specs.Seen.{views}
use Rattle.recovery.specs.Items.{Item, Kept}
use Rattle.trace_port.specs.Port.{Told}
use Rattle.trace_port.specs.Calls.{IsRefused}
use Rattle.trace_port.specs.PortCalls.{Accepts, Flushes}
use Rattle.trace_port.specs.declared.fault.PortFault.{PortFault}
use Rattle.trace_port.specs.declared.fault.PortFault.TheVariants as faults
use Rattle.intake.specs.WaitingLists.{messages_in}
use Rattle.intake.specs.Tracees.{waiting_of, CountsGrow, SameSetup}
use Rattle.tracees.specs.Books.{added, all_flushed, IsWithin}
use Rattle.tracees.specs.Desks.{DeskState, Seat, SameBook, BookCovers}
use Rattle.tracees.specs.declared.book.Totals.{Totals}
use Rattle.tracees.specs.declared.receipt.Receipt.{Receipt}
use Rattle.tracees.specs.declared.receipt.HandFault.{HandFault}
use Rattle.tracees.specs.declared.receipt.HandFault.TheVariants as hands

-- of these entries, offered in order, the port takes those moved, and refuses the one after them for this fault
pub data TakesInOrder {P : Type 0} (told : P → Told) : P → (offered moved : List Entry) → Option PortFault → P → Type 0 where
  none_left : {p : P} → TakesInOrder told p [] [] None p
  takes_one : {p q r : P} {e : Entry} {n : ℕ} {es moved : List Entry} {fault : Option PortFault}
      → Accepts (told p) (told q) e (Ok n) → TakesInOrder told q es moved fault r → TakesInOrder told p (e ∷ es) (e ∷ moved) fault r
  -- an entry that the device failed to keep has moved
  fails_at : {p q : P} {e : Entry} {es : List Entry} → Accepts (told p) (told q) e (Err faults.Device) → TakesInOrder told p (e ∷ es) (e ∷ []) (Some faults.Device) q
  -- every other that is refused stays
  stops_at : {p q : P} {e : Entry} {es : List Entry} {fault : PortFault}
      → Accepts (told p) (told q) e (Err fault) → IsRefused {T = ℕ} (Err fault) → TakesInOrder told p (e ∷ es) [] (Some fault) q

-- of what was offered, these entries went from the front of what waits into the port, and the book and the account count them and nothing else
pub record Moves {P : Type 0} (told : P → Told) (old new : DeskState P) (was is : Seat) (offered moved : List Entry) (fault : Option PortFault) : Type 0 where
  pub takes : TakesInOrder told old.port offered moved fault new.port
  pub rest : waiting_of was.tracee ≡ moved ++ waiting_of is.tracee
  pub counts : CountsGrow 0 (messages_in moved) (drops_in moved) was.tracee is.tracee
  pub setup : SameSetup was.tracee is.tracee
  pub account : is.sums ≡ added was.sums moved
  pub desk : is.desk ≡ was.desk
  pub book : new.counted ≡ added old.counted moved
  pub number : new.number ≡ old.number
  pub attached : new.attached ≡ old.attached

-- what a receipt says of them: the number of the first, or the next number where there is none, and what is covered at the end
pub record Names (old new : Told) (was : Seat) (receipt : Receipt) : Type 0 where
  pub desk : receipt.desk ≡ was.desk
  pub tracee : receipt.tracee ≡ was.tracee.number
  pub first : receipt.first ≡ old.total
  pub covered : receipt.covered ≡ new.covered

-- and nothing has changed
pub record NoChange {P : Type 0} (old new : DeskState P) (was is : Seat) : Type 0 where
  pub place : new ≡ old
  pub seat : is ≡ was

-- a hand-over of at most so many entries
pub data HandsOver {P : Type 0} (told : P → Told) (old new : DeskState P) (limit : ℕ) (was is : Seat) : Result Receipt HandFault → Type 0 where
  moves : {receipt : Receipt} → was.desk ≡ old.number → Moves told old new was is (take limit (waiting_of was.tracee)) (views receipt.entries.items) None
      → Names (told old.port) (told new.port) was receipt → HandsOver told old new limit was is (Ok receipt)
  is_refused : {fault : PortFault} {receipt : Receipt} → was.desk ≡ old.number → Moves told old new was is (take limit (waiting_of was.tracee)) (views receipt.entries.items) (Some fault)
      → Names (told old.port) (told new.port) was receipt → HandsOver told old new limit was is (Err (hands.Port fault receipt))
  no_memory : was.desk ≡ old.number → NoChange old new was is → HandsOver told old new limit was is (Err hands.NoMemory)
  is_stranger : was.desk ≢ old.number → NoChange old new was is → HandsOver told old new limit was is (Err hands.Stranger)

-- the account's messages are flushed, and nothing else has changed
pub record AccountCovers (was is : Seat) : Type 0 where
  pub sums : is.sums ≡ all_flushed was.sums
  pub desk : is.desk ≡ was.desk
  pub tracee : is.tracee ≡ was.tracee

-- the port was flushed after a hand-over of all that waited
pub record FlushedAfter {P : Type 0} (told : P → Told) (old new : DeskState P) (was : Seat) (receipt : Receipt) (between : DeskState P) (mid : Seat) (answer : Result ℕ PortFault) : Type 0 where
  pub all : Moves told old between was mid (waiting_of was.tracee) (views receipt.entries.items) None
  pub flush : Flushes (told between.port) (told new.port) answer
  pub names : Names (told old.port) (told new.port) was receipt

-- a flush for a tracee: all that waits is handed over, and then, where nothing was refused, the port is flushed
pub data FlushesFor {P : Type 0} (told : P → Told) (old new : DeskState P) (was is : Seat) : Result Receipt HandFault → Type 0 where
  covers : {receipt : Receipt} {n : ℕ} (between : DeskState P) (mid : Seat) → was.desk ≡ old.number → FlushedAfter told old new was receipt between mid (Ok n)
      → BookCovers between new → AccountCovers mid is → FlushesFor told old new was is (Ok receipt)
  flush_fails : {fault : PortFault} {receipt : Receipt} (between : DeskState P) → was.desk ≡ old.number → FlushedAfter told old new was receipt between is (Err fault)
      → SameBook between new → FlushesFor told old new was is (Err (hands.Port fault receipt))
  is_refused : {fault : PortFault} {receipt : Receipt} → was.desk ≡ old.number → Moves told old new was is (waiting_of was.tracee) (views receipt.entries.items) (Some fault)
      → Names (told old.port) (told new.port) was receipt → FlushesFor told old new was is (Err (hands.Port fault receipt))
  no_memory : was.desk ≡ old.number → NoChange old new was is → FlushesFor told old new was is (Err hands.NoMemory)
  is_stranger : was.desk ≢ old.number → NoChange old new was is → FlushesFor told old new was is (Err hands.Stranger)

-- the receipt of a hand-over's answer, also that inside a refusal
abbrev pub receipt_of : Result Receipt HandFault → Option Receipt
receipt_of (Ok receipt) = Some receipt
receipt_of (Err (hands.Port fault receipt)) = Some receipt
receipt_of (Err hands.NoMemory) = None
receipt_of (Err hands.Stranger) = None

-- the entries that a receipt tells, where there is one
abbrev pub receipted : Option Receipt → List Entry
receipted None = []
receipted (Some receipt) = views receipt.entries.items

-- the entries that a hand-over's answer says were moved
abbrev pub moved_by : Result Receipt HandFault → List Entry
moved_by result = receipted (receipt_of result)

-- the port's items that they are
abbrev pub items_moved : Result Receipt HandFault → List Item
items_moved result = map Kept (moved_by result)

-- the number that stands before the name where a refusal is printed
abbrev pub fault_number : HandFault → ℕ
fault_number (hands.Port fault receipt) = 1
fault_number hands.NoMemory = 2
fault_number hands.Stranger = 3

-- whether it answered Ok
abbrev pub has_gone : Result Receipt HandFault → Bool
has_gone (Ok receipt) = true
has_gone (Err fault) = false

-- before the hand-over of this receipt the book counted no less than the account, and the port had at least the account's messages
pub record IsBacked (account book : Totals) (receipt : Receipt) : Type 0 where
  pub within : IsWithin account book
  pub first : account.messages ≤ receipt.first
