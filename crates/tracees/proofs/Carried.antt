-- What a run does to one tracee.
use Rattle.std.proofs.Common.{◌≡◌, ◌≢◌, ⊎_elim, ℕ, Bool, true, false, nat_eq, if◌then◌else◌, List, [], ◌++◌, length, set, slice_get, Option, Some, None, Result, Ok, Err, refl, sym, ◌∙◌, ap, subst, append_assoc}
use Rattle.std.specs.Prelude.{IfSome, IsSomeAnd}
use Rattle.std.proofs.lemmas.List.{append-nil}
use Rattle.std.proofs.lemmas.Bool.{eq-eqb, ne_eqb, cases_eq}
use Rattle.std.proofs.lemmas.Option.{same_Some}
use Rattle.ext_format.specs.Canonical.{canonical}
use Rattle.entry_codec.specs.Entries.{Entry}
use Rattle.trace_terms.specs.Data.{Data}
use Rattle.trace_message.specs.declared.event.Event.{Event}
use Rattle.trace_message.specs.declared.event.Stamp.{Stamp}
use Rattle.trace_message.specs.Events.{event_view}
use Rattle.trace_message.specs.Messages.{message_of}
use Rattle.trace_port.specs.Port.{Told}
use Rattle.intake.specs.Emitting.{message_for, FitsEntry}
use Rattle.intake.specs.Histories.{History, Took}
use Rattle.intake.specs.Leads.{Leads, takes}
use Rattle.intake.specs.Passed.{HasPassed, AddsOffer, AddsTaking}
use Rattle.intake.specs.Tracees.{waiting_of, capacity_of, SameSetup}
use Rattle.intake.specs.declared.fault.EmitFault.{EmitFault}
use Rattle.intake.specs.declared.offer.Offer.{Offer}
use Rattle.intake.specs.declared.offer.Offer.TheVariants as offers
use Rattle.intake.specs.declared.tracee.Tracee.{Tracee}
use Rattle.tracees.specs.Desks.{DeskState, Seat}
use Rattle.tracees.specs.Emits.{Emits}
use Rattle.tracees.specs.Hands.{HandsOver, FlushesFor, moves, is_refused, no_memory, is_stranger, covers, flush_fails, moved_by, receipted}
use Rattle.tracees.specs.Steps.{State, ActsFor, EmitsAt, IsStep, emits, hands_over, flushes_for, flushes, seals, ticks, emit_unknown, hand_unknown, flush_for_unknown, flush_unknown, seal_unknown, tick_unknown, offer_reply, hand_reply, Run, ends, goes_on}
use Rattle.tracees.specs.Effects.{receipt_in, is_offered, offered_too, history_by, history_after, carried_by, carried}
use Rattle.tracees.specs.Moments.{AreCarried}
use Rattle.tracees.specs.declared.receipt.Receipt.{Receipt}
use Rattle.tracees.specs.declared.receipt.HandFault.{HandFault}
use Rattle.tracees.specs.declared.receipt.HandFault.TheVariants as hands
use Rattle.tracees.specs.declared.step.Step.{Step}
use Rattle.tracees.specs.declared.step.Reply.{Reply}
use Rattle.tracees.proofs.Places.{written, not_written}

-- ---- what a tracee was made with

pub same_setup : (tracee : Tracee) → SameSetup tracee tracee
same_setup tracee = record { number = refl; pid = refl; flags = refl; capacity = refl; drop_limit = refl }

pub setup_both : (old mid new : Tracee) → SameSetup old mid → SameSetup mid new → SameSetup old new
setup_both old mid new one two = record {
  number = two.number ∙ one.number;
  pid = two.pid ∙ one.pid;
  flags = two.flags ∙ one.flags;
  capacity = two.capacity ∙ one.capacity;
  drop_limit = two.drop_limit ∙ one.drop_limit;
}

pub setup_of : (old new other : Tracee) → other ≡ new → SameSetup old new → SameSetup old other
setup_of old new other same setup = subst (λ (t : Tracee). SameSetup old t) (sym same) setup

-- a message is made by that alone
pub same_message : (old new : Tracee) → SameSetup old new → (event : Event) (stamp : Stamp) → message_for new event stamp ≡ message_for old event stamp
same_message old new setup event stamp =
    ap (λ pid. message_of (event_view event) pid new.flags stamp) setup.pid ∙ ap (λ flags. message_of (event_view event) old.pid flags stamp) setup.flags

-- ---- how a history goes on

still_passed : (old new : Tracee) → SameSetup old new → waiting_of new ≡ waiting_of old → (before : List Entry) (h : History) (taken : List Entry) → HasPassed before h taken old → HasPassed before h taken new
still_passed old new setup same before h taken passed =
    subst (λ (l : List Entry). Leads (capacity_of new) before h taken l) (sym same) (subst (λ (n : ℕ). Leads n before h taken (waiting_of old)) (sym setup.capacity) passed)

pub adds_taking : (old new : Tracee) (moved : List Entry) → SameSetup old new → waiting_of old ≡ moved ++ waiting_of new → AddsTaking moved old new
adds_taking old new moved setup rest before h taken passed =
    subst (λ (n : ℕ). Leads n before (Took h (length moved)) (taken ++ moved) (waiting_of new)) (sym setup.capacity) (takes h taken moved (waiting_of old) (waiting_of new) passed rest)

adds_offer : (old new : Tracee) (message : Option Data) → IsSomeAnd message FitsEntry → IfSome message (λ m. AddsOffer (canonical m) old new) → (before : List Entry) (h : History) (taken : List Entry) → HasPassed before h taken old
    → HasPassed before (offered_too h message) taken new
adds_offer old new None fits adds before h taken passed = absurd fits
adds_offer old new (Some message) fits adds before h taken passed = adds before h taken passed

-- the history after an emit
abbrev pub after_emit : History → Option Data → Bool → History
after_emit h message offered = if offered then offered_too h message else h

pub emit_passes : (old new : Tracee) (event : Event) (stamp : Stamp) (result : Result Offer EmitFault) → Emits old new event stamp result → (before : List Entry) (h : History) (taken : List Entry) → HasPassed before h taken old
    → HasPassed before (after_emit h (message_for old event stamp) (is_offered (offer_reply result))) taken new
emit_passes old new event stamp (Ok offers.Kept) e before h taken passed = adds_offer old new (message_for old event stamp) (e.kept.only refl).0 (e.history refl) before h taken passed
emit_passes old new event stamp (Ok offers.Dropped) e before h taken passed = adds_offer old new (message_for old event stamp) (e.dropped.only refl).0 (e.history refl) before h taken passed
emit_passes old new event stamp (Ok offers.Unasked) e before h taken passed = still_passed old new e.setup (e.stays refl) before h taken passed
emit_passes old new event stamp (Err fault) e before h taken passed = still_passed old new e.setup (e.stays refl) before h taken passed

-- ---- what a hand-over takes

pub record Takes (was is : Tracee) (moved : List Entry) : Type 0 where
  pub setup : SameSetup was is
  pub rest : waiting_of was ≡ moved ++ waiting_of is

none_taken : (was is : Seat) → is ≡ was → Takes was.tracee is.tracee []
none_taken was is same = record { setup = setup_of was.tracee was.tracee is.tracee (ap (λ (s : Seat). s.tracee) same) (same_setup was.tracee); rest = ap (λ (s : Seat). waiting_of s.tracee) (sym same) }

pub hand_takes : {P : Type 0} (told : P → Told) (p q : DeskState P) (limit : ℕ) (was is : Seat) (result : Result Receipt HandFault) → HandsOver told p q limit was is result → Takes was.tracee is.tracee (moved_by result)
hand_takes told p q limit was is result (moves same m names) = record { setup = m.setup; rest = m.rest }
hand_takes told p q limit was is result (is_refused same m names) = record { setup = m.setup; rest = m.rest }
hand_takes told p q limit was is result (no_memory same none) = none_taken was is none.seat
hand_takes told p q limit was is result (is_stranger other none) = none_taken was is none.seat

pub flush_for_takes : {P : Type 0} (told : P → Told) (p q : DeskState P) (was is : Seat) (result : Result Receipt HandFault) → FlushesFor told p q was is result → Takes was.tracee is.tracee (moved_by result)
flush_for_takes told p q was is result (covers {receipt = receipt} between mid same f book account) = record {
  setup = setup_of was.tracee mid.tracee is.tracee account.tracee f.all.setup;
  rest = f.all.rest ∙ ap (λ (t : Tracee). moved_by result ++ waiting_of t) (sym account.tracee);
}
flush_for_takes told p q was is result (flush_fails between same f book) = record { setup = f.all.setup; rest = f.all.rest }
flush_for_takes told p q was is result (is_refused same m names) = record { setup = m.setup; rest = m.rest }
flush_for_takes told p q was is result (no_memory same none) = none_taken was is none.seat
flush_for_takes told p q was is result (is_stranger other none) = none_taken was is none.seat

same_moved : (result : Result Receipt HandFault) → moved_by result ≡ receipted (receipt_in (hand_reply result))
same_moved (Ok receipt) = refl
same_moved (Err (hands.Port fault receipt)) = refl
same_moved (Err hands.NoMemory) = refl
same_moved (Err hands.Stranger) = refl

takes_told : (was is : Tracee) (result : Result Receipt HandFault) (reply : Reply) → reply ≡ hand_reply result → Takes was is (moved_by result) → Takes was is (receipted (receipt_in reply))
takes_told was is result reply same t = subst (λ (l : List Entry). Takes was is l) (same_moved result ∙ ap (λ (r : Reply). receipted (receipt_in r)) (sym same)) t

-- ---- a step at one tracee

-- the tracee that was at this place is at it; its history went on so, and these entries were taken from it
record Left {P : Type 0} (new : State P) (place : ℕ) (was : Seat) (h_on : History → History) (more : List Entry) : Type 0 where
  seat : Seat
  there : slice_get new.tracees place ≡ Some seat
  setup : SameSetup was.tracee seat.tracee
  passed : (before : List Entry) (h : History) (taken : List Entry) → HasPassed before h taken was.tracee → HasPassed before (h_on h) (taken ++ more) seat.tracee

-- a step that touches no tracee
left : {P : Type 0} (old new : State P) → new.tracees ≡ old.tracees → (place : ℕ) (was : Seat) → slice_get old.tracees place ≡ Some was → Left new place was (λ h. h) []
left old new same place was at = record {
  seat = was;
  there = ap (λ (l : List Seat). slice_get l place) same ∙ at;
  setup = same_setup was.tracee;
  passed = λ before h taken passed. subst (λ (l : List Entry). HasPassed before h l was.tracee) (sym (append-nil taken)) passed;
}

-- a step for the tracee at a place: at it, and at another
left_for : {P : Type 0} (old new : State P) (at : ℕ) (a b : Seat) (there_on : History → History) (there_more : List Entry) → ActsFor old new at a b → SameSetup a.tracee b.tracee
    → (place : ℕ) (was : Seat) → slice_get old.tracees place ≡ Some was
    → (a ≡ was → (before : List Entry) (h : History) (taken : List Entry) → HasPassed before h taken a.tracee → HasPassed before (there_on h) (taken ++ there_more) b.tracee)
    → Left new place was (λ h. if nat_eq at place then there_on h else h) (if nat_eq at place then there_more else [])
left_for {P} old new at a b there_on there_more acts setup place was there passes = ⊎_elim
    (λ (is : at ≡ place).
    let same : a ≡ was = same_Some a was (sym acts.there ∙ ap (λ (i : ℕ). slice_get old.tracees i) is ∙ there) in
    let there_now : slice_get new.tracees place ≡ Some b = ap (λ (l : List Seat). slice_get l place) acts.others ∙ ap (λ (i : ℕ). slice_get (set old.tracees at b) i) (sym is) ∙ written old.tracees at a b acts.there in
    let one : Left new place a there_on there_more = record { seat = b; there = there_now; setup = setup; passed = passes same } in
    subst (λ (x : Bool). Left new place was (λ h. if x then there_on h else h) (if x then there_more else [])) (sym (eq-eqb at place is)) (subst (λ (s : Seat). Left new place s there_on there_more) same one))
    (λ (isnt : at ≢ place).
    let there_now : slice_get new.tracees place ≡ Some was = ap (λ (l : List Seat). slice_get l place) acts.others ∙ not_written old.tracees at place b isnt ∙ there in
    let none : Left new place was (λ h. h) [] = record {
      seat = was;
      there = there_now;
      setup = same_setup was.tracee;
      passed = λ before h taken passed. subst (λ (l : List Entry). HasPassed before h l was.tracee) (sym (append-nil taken)) passed;
    } in
    subst (λ (x : Bool). Left new place was (λ h. if x then there_on h else h) (if x then there_more else [])) (sym (ne_eqb at place isnt)) none)
    (cases_eq at place)

-- an answer without a receipt takes no entry
left_none : {P : Type 0} (old new : State P) → new ≡ old → (at place : ℕ) (was : Seat) → slice_get old.tracees place ≡ Some was → Left new place was (λ h. if nat_eq at place then Took h 0 else h) (if nat_eq at place then [] else [])
left_none {P} old new same at place was there = by_test (nat_eq at place)
  where
    there_now : slice_get new.tracees place ≡ Some was
    there_now = ap (λ (s : State P). slice_get s.tracees place) same ∙ there

    by_test : (x : Bool) → Left new place was (λ h. if x then Took h 0 else h) (if x then [] else [])
    by_test true = record { seat = was; there = there_now; setup = same_setup was.tracee; passed = adds_taking was.tracee was.tracee [] (same_setup was.tracee) refl }
    by_test false = left old new (ap (λ (s : State P). s.tracees) same) place was there

none_either_way : (x : Bool) → ◌≡◌ {A = List Entry} (if x then [] else []) []
none_either_way true = refl
none_either_way false = refl

emit_left : {P : Type 0} (old new : State P) (at : ℕ) (a b : Seat) (event : Event) (stamp : Stamp) (result : Result Offer EmitFault) (reply : Reply) → EmitsAt old new at event stamp result a b → reply ≡ offer_reply result
    → (place : ℕ) (was : Seat) → slice_get old.tracees place ≡ Some was → (tracee : Tracee) → SameSetup tracee was.tracee
    → Left new place was (λ h. if nat_eq at place then after_emit h (message_for tracee event stamp) (is_offered reply) else h) []
emit_left old new at a b event stamp result reply e told place was there tracee setup =
    let on = λ (h : History). after_emit h (message_for tracee event stamp) (is_offered reply) in
    subst (λ (more : List Entry). Left new place was (λ h. if nat_eq at place then on h else h) more) (none_either_way (nat_eq at place))
    (left_for old new at a b on [] e.acts e.emits.setup place was there
    (λ same before h taken passed.
    let message : message_for a.tracee event stamp ≡ message_for tracee event stamp = ap (λ (s : Seat). message_for s.tracee event stamp) same ∙ same_message tracee was.tracee setup event stamp in
    let answer : is_offered (offer_reply result) ≡ is_offered reply = ap is_offered (sym told) in
    subst (λ (l : List Entry). HasPassed before (on h) l b.tracee) (sym (append-nil taken))
    (subst (λ (m : Option Data). HasPassed before (after_emit h m (is_offered reply)) taken b.tracee) message
    (subst (λ (x : Bool). HasPassed before (after_emit h (message_for a.tracee event stamp) x) taken b.tracee) answer
    (emit_passes a.tracee b.tracee event stamp result e.emits before h taken passed)))))

-- an event that no tracee takes in
left_unasked : {P : Type 0} (old new : State P) → new ≡ old → (at place : ℕ) (was : Seat) → slice_get old.tracees place ≡ Some was → Left new place was (λ h. if nat_eq at place then h else h) []
left_unasked {P} old new same at place was there = by_test (nat_eq at place)
  where
    one : Left new place was (λ h. h) []
    one = left old new (ap (λ (s : State P). s.tracees) same) place was there

    by_test : (x : Bool) → Left new place was (λ h. if x then h else h) []
    by_test true = one
    by_test false = one

taking_left : {P : Type 0} (old new : State P) (at : ℕ) (a b : Seat) (reply : Reply) → ActsFor old new at a b → Takes a.tracee b.tracee (receipted (receipt_in reply)) → (place : ℕ) (was : Seat) → slice_get old.tracees place ≡ Some was
    → Left new place was (λ h. if nat_eq at place then Took h (length (receipted (receipt_in reply))) else h) (if nat_eq at place then receipted (receipt_in reply) else [])
taking_left old new at a b reply acts t place was there =
    let moved = receipted (receipt_in reply) in
    left_for old new at a b (λ h. Took h (length moved)) moved acts t.setup place was there (λ same. adds_taking a.tracee b.tracee moved t.setup t.rest)

step_left : {P : Type 0} (told : P → Told) (old new : State P) (x : Step) (reply : Reply) → IsStep told old new x reply → (place : ℕ) (was : Seat) → slice_get old.tracees place ≡ Some was
    → (tracee : Tracee) → SameSetup tracee was.tracee → Left new place was (λ h. history_by place tracee h x reply) (carried_by place x reply)
step_left told old new x reply (emits {tracee = at} {event = event} {stamp = stamp} result a b e same) place was there tracee setup = emit_left old new at a b event stamp result reply e same place was there tracee setup
step_left told old new x reply (hands_over {tracee = at} {limit = limit} result a b p q for on number h same) place was there tracee setup =
    taking_left old new at a b reply for (takes_told a.tracee b.tracee result reply same (hand_takes told p q limit a b result h)) place was there
step_left told old new x reply (flushes_for {tracee = at} result a b p q for on number f same) place was there tracee setup =
    taking_left old new at a b reply for (takes_told a.tracee b.tracee result reply same (flush_for_takes told p q a b result f)) place was there
step_left told old new x reply (flushes result p q alone f same) place was there tracee setup = left old new alone.tracees place was there
step_left told old new x reply (seals result p q alone f same) place was there tracee setup = left old new alone.tracees place was there
step_left told old new x reply (ticks result p q alone f same) place was there tracee setup = left old new alone.tracees place was there
step_left told old new x reply (emit_unknown {tracee = at} none same) place was there tracee setup = left_unasked old new same at place was there
step_left told old new x reply (hand_unknown {tracee = at} none same) place was there tracee setup = left_none old new same at place was there
step_left told old new x reply (flush_for_unknown {tracee = at} none same) place was there tracee setup = left_none old new same at place was there
step_left {P} told old new x reply (flush_unknown none same) place was there tracee setup = left old new (ap (λ (s : State P). s.tracees) same) place was there
step_left {P} told old new x reply (seal_unknown none same) place was there tracee setup = left old new (ap (λ (s : State P). s.tracees) same) place was there
step_left {P} told old new x reply (tick_unknown none same) place was there tracee setup = left old new (ap (λ (s : State P). s.tracees) same) place was there

-- ---- a run at one tracee

run_left : {P : Type 0} (told : P → Told) (old new : State P) (steps : List Step) (rs : List Reply) → Run told old steps rs new → (place : ℕ) (was : Seat) → slice_get old.tracees place ≡ Some was
    → (tracee : Tracee) → SameSetup tracee was.tracee → Left new place was (λ h. history_after place tracee h steps rs) (carried place steps rs)
run_left told old new steps rs ends place was there tracee setup = left old old refl place was there
run_left told old new steps rs (goes_on {mid = mid} {step = x} {steps = xs} {reply = reply} {replies = more} one rest) place was there tracee setup =
    let first = step_left told old mid x reply one place was there tracee setup in
    let later = run_left told mid new xs more rest place first.seat first.there tracee (setup_both tracee was.tracee first.seat.tracee setup first.setup) in
    record {
      seat = later.seat;
      there = later.there;
      setup = setup_both was.tracee first.seat.tracee later.seat.tracee first.setup later.setup;
      passed = λ before h taken passed.
          subst (λ (l : List Entry). HasPassed before (history_after place tracee (history_by place tracee h x reply) xs more) l later.seat.tracee) (append_assoc taken (carried_by place x reply) (carried place xs more))
          (later.passed before (history_by place tracee h x reply) (taken ++ carried_by place x reply) (first.passed before h taken passed));
    }

pub are_carried : {P : Type 0} (told : P → Told) (first : State P) (steps : List Step) (rs : List Reply) (last : State P) → Run told first steps rs last → AreCarried first steps rs last
are_carried told first steps rs last run place was is at_was at_is before h taken passed =
    let end = run_left told first last steps rs run place was at_was was.tracee (same_setup was.tracee) in
    subst (λ (s : Seat). HasPassed before (history_after place was.tracee h steps rs) (taken ++ carried place steps rs) s.tracee) (same_Some end.seat is (sym end.there ∙ at_is)) (end.passed before h taken passed)
