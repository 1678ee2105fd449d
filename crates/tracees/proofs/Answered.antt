-- What a hand-over and a flush for a tracee have done, by their answers.
use Rattle.std.proofs.Common.{◌≡◌, ℕ, false, List, [], ◌∷◌, map, take, take_all, Option, Some, None, Result, Ok, Err, refl, sym, subst, arith}
use Rattle.std.specs.Prelude.{IfSome}
use Rattle.std.proofs.lemmas.List.{append-nil}
use Rattle.entry_codec.specs.Entries.{Entry}
use Rattle.entry_codec.specs.Seen.{views}
use Rattle.recovery.specs.Items.{Item, Kept}
use Rattle.intake.specs.Tracees.{waiting_of}
use Rattle.intake.specs.declared.tracee.Tracee.{Tracee}
use Rattle.intake.proofs.ListLemmas.{few_entries}
use Rattle.trace_port.specs.Port.{Told, Grows}
use Rattle.trace_port.specs.Calls.{went}
use Rattle.trace_port.specs.PortCalls.{Flushes}
use Rattle.trace_port.specs.declared.fault.PortFault.{PortFault}
use Rattle.trace_port.specs.declared.fault.PortFault.TheVariants as faults
use Rattle.tracees.specs.Desks.{DeskState, Seat}
use Rattle.trace_port.specs.Effects.{effect, Calls}
use Rattle.tracees.specs.Hands.{TakesInOrder, Moves, HandsOver, FlushesFor, items_moved, has_gone, receipt_of, moves, is_refused, no_memory, is_stranger, covers, flush_fails}
use Rattle.tracees.specs.Moving.{HasNoRoom}
use Rattle.tracees.specs.declared.receipt.Receipt.{Receipt}
use Rattle.tracees.specs.declared.receipt.HandFault.{HandFault}
use Rattle.tracees.specs.declared.receipt.HandFault.TheVariants as hands
use Rattle.trace_port.proofs.Composed.{IsStill, calls_both, flush_calls, grows_of, joins_next, no_effect_call_of}
use Rattle.tracees.proofs.Counted.{takes_calls}

-- ---- what it did, told in another way

-- without room nothing is done
pub no_room_hands : {P : Type 0} (told : P → Told) (place : DeskState P) (limit : ℕ) (seat : Seat) (fault : HandFault) → HasNoRoom seat.desk place.number fault → HandsOver told place place limit seat seat (Err fault)
no_room_hands told place limit seat (hands.Port fault receipt) h = absurd h
no_room_hands told place limit seat hands.NoMemory h = no_memory h (record { place = refl; seat = refl })
no_room_hands told place limit seat hands.Stranger h = is_stranger h (record { place = refl; seat = refl })

pub no_room_flushes : {P : Type 0} (told : P → Told) (place : DeskState P) (seat : Seat) (fault : HandFault) → HasNoRoom seat.desk place.number fault → FlushesFor told place place seat seat (Err fault)
no_room_flushes told place seat (hands.Port fault receipt) h = absurd h
no_room_flushes told place seat hands.NoMemory h = no_memory h (record { place = refl; seat = refl })
no_room_flushes told place seat hands.Stranger h = is_stranger h (record { place = refl; seat = refl })

-- the same entries were offered, and the same was refused
pub moves_of : {P : Type 0} (told : P → Told) (old new : DeskState P) (was is : Seat) (offered others moved : List Entry) (fault other : Option PortFault) → offered ≡ others → fault ≡ other
    → Moves told old new was is offered moved fault → Moves told old new was is others moved other
moves_of told old new was is offered others moved fault other same why m = record {
  takes = subst (λ (o : Option PortFault). TakesInOrder told old.port others moved o new.port) why (subst (λ (l : List Entry). TakesInOrder told old.port l moved fault new.port) same m.takes);
  rest = m.rest;
  counts = m.counts;
  setup = m.setup;
  account = m.account;
  desk = m.desk;
  book = m.book;
  number = m.number;
  attached = m.attached;
}

-- fewer entries wait than the greatest limit
pub all_wait : (tracee : Tracee) → take 4294967295 (waiting_of tracee) ≡ waiting_of tracee
all_wait tracee = take_all 4294967295 (waiting_of tracee) (omega (arith, few_entries (waiting_of tracee) tracee.waiting.1, tracee.within_capacity, tracee.capacity_in_range.1))

-- a flush that failed or was refused covers no more
pub flush_covers_none : (old new : Told) (fault : PortFault) → Flushes old new (Err fault) → new.covered ≡ old.covered
flush_covers_none old new faults.Device flush = (flush.failed refl).covered
flush_covers_none old new faults.Broken flush = (flush.refused tt).same.covered
flush_covers_none old new faults.Sealed flush = (flush.refused tt).same.covered
flush_covers_none old new faults.CountFull flush = absurd flush.others
flush_covers_none old new faults.FileFull flush = absurd flush.others

-- ---- the calls of the port

-- entries that were taken, and a flush
taken_and_flushed : {P : Type 0} (told : P → Told) → ((p : P) → IsStill (told p)) → (old mid new : P) (offered moved : List Entry) (fault : Option PortFault) (answer : Result ℕ PortFault) → TakesInOrder told old offered moved fault mid → Flushes (told mid) (told new) answer
    → Calls (told old) (told new) (effect (map Kept moved) (went answer) ∷ [])
taken_and_flushed told still old mid new offered moved fault answer takes flush =
    subst (λ (items : List Item). Calls (told old) (told new) (effect items (went answer) ∷ [])) (append-nil (map Kept moved))
    (joins_next (told old) (told new) (map Kept moved) [] (went answer)
    (calls_both (told old) (told mid) (told new) (effect (map Kept moved) false ∷ []) (effect [] (went answer) ∷ []) (takes_calls told still old mid offered moved fault takes) (flush_calls (told mid) (told new) answer flush)))

-- a hand-over
pub hands_calls : {P : Type 0} (told : P → Told) → ((p : P) → IsStill (told p)) → (old new : DeskState P) (limit : ℕ) (was is : Seat) (result : Result Receipt HandFault) → HandsOver told old new limit was is result
    → Calls (told old.port) (told new.port) (effect (items_moved result) false ∷ [])
hands_calls told still old new limit was is result (moves {receipt = receipt} same m names) = takes_calls told still old.port new.port (take limit (waiting_of was.tracee)) (views receipt.entries.items) None m.takes
hands_calls told still old new limit was is result (is_refused {fault = fault} {receipt = receipt} same m names) = takes_calls told still old.port new.port (take limit (waiting_of was.tracee)) (views receipt.entries.items) (Some fault) m.takes
hands_calls {P} told still old new limit was is result (no_memory same none) = no_effect_call_of (λ (p : DeskState P). told p.port) old new (still old.port) none.place
hands_calls {P} told still old new limit was is result (is_stranger other none) = no_effect_call_of (λ (p : DeskState P). told p.port) old new (still old.port) none.place

-- a flush for a tracee
pub flushes_for_calls : {P : Type 0} (told : P → Told) → ((p : P) → IsStill (told p)) → (old new : DeskState P) (was is : Seat) (result : Result Receipt HandFault) → FlushesFor told old new was is result
    → Calls (told old.port) (told new.port) (effect (items_moved result) (has_gone result) ∷ [])
flushes_for_calls told still old new was is result (covers {receipt = receipt} {n = n} between mid same f book account) =
    taken_and_flushed told still old.port between.port new.port (waiting_of was.tracee) (views receipt.entries.items) None (Ok n) f.all.takes f.flush
flushes_for_calls told still old new was is result (flush_fails {fault = fault} {receipt = receipt} between same f book) =
    taken_and_flushed told still old.port between.port new.port (waiting_of was.tracee) (views receipt.entries.items) None (Err fault) f.all.takes f.flush
flushes_for_calls told still old new was is result (is_refused {fault = fault} {receipt = receipt} same m names) = takes_calls told still old.port new.port (waiting_of was.tracee) (views receipt.entries.items) (Some fault) m.takes
flushes_for_calls {P} told still old new was is result (no_memory same none) = no_effect_call_of (λ (p : DeskState P). told p.port) old new (still old.port) none.place
flushes_for_calls {P} told still old new was is result (is_stranger other none) = no_effect_call_of (λ (p : DeskState P). told p.port) old new (still old.port) none.place

-- what each of them adds
pub hands_grow : {P : Type 0} (told : P → Told) → ((p : P) → IsStill (told p)) → (old new : DeskState P) (limit : ℕ) (was is : Seat) (result : Result Receipt HandFault) → HandsOver told old new limit was is result
    → Grows (told old.port) (told new.port) (items_moved result) false
hands_grow told still old new limit was is result h = grows_of (told old.port) (told new.port) (items_moved result) false (hands_calls told still old new limit was is result h)

pub flushes_for_grow : {P : Type 0} (told : P → Told) → ((p : P) → IsStill (told p)) → (old new : DeskState P) (was is : Seat) (result : Result Receipt HandFault) → FlushesFor told old new was is result
    → Grows (told old.port) (told new.port) (items_moved result) (has_gone result)
flushes_for_grow told still old new was is result f = grows_of (told old.port) (told new.port) (items_moved result) (has_gone result) (flushes_for_calls told still old new was is result f)

-- ---- the receipt of an answer

-- a refusal for want of room has none
pub no_receipt : (attached number : ℕ) (fault : HandFault) → HasNoRoom attached number fault → receipt_of (Err fault) ≡ None
no_receipt attached number (hands.Port fault receipt) h = absurd h
no_receipt attached number hands.NoMemory h = refl
no_receipt attached number hands.Stranger h = refl

-- what holds of each receipt holds where there is none
pub of_none : (result : Result Receipt HandFault) (Q : Receipt → Type 0) → receipt_of result ≡ None → IfSome (receipt_of result) Q
of_none result Q none = subst (λ (o : Option Receipt). IfSome o Q) (sym none) tt
