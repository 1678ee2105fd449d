-- A step at desks and tracees in memory is a step of a run.
use Rattle.std.proofs.Common.{◌≡◌, ℕ, ◌<◌, ◌≤◌, List, length, set, get_or, Result, Bool, refl, ◌∙◌, ap, subst, arith}
use Rattle.std.proofs.lemmas.List.{map-set}
use Rattle.trace_message.specs.declared.event.Event.{Event}
use Rattle.trace_message.specs.declared.event.Stamp.{Stamp}
use Rattle.trace_port.specs.declared.port.TracePort.{Ghosts as PortGhosts}
use Rattle.trace_port.specs.declared.fault.PortFault.{PortFault}
use Rattle.intake.specs.declared.offer.Offer.{Offer}
use Rattle.intake.specs.declared.fault.EmitFault.{EmitFault}
use Rattle.tracees.specs.Desks.{Seat, SameBook}
use Rattle.tracees.specs.Emits.{Emits}
use Rattle.tracees.specs.Hands.{HandsOver, FlushesFor}
use Rattle.trace_port.specs.PortCalls.{Flushes, Seals, Ticks}
use Rattle.tracees.specs.States.{place_of, seat_of, places_with, state_of}
use Rattle.tracees.specs.Steps.{ActsOn, ActsFor, ActsAlone, NoSeat, NoTracee, NoDesk, nowhere, AreNumbered, IsStep, emits, hands_over, flushes_for, flushes, seals, ticks, offer_reply, hand_reply, flush_reply, seal_reply, tick_reply}
use Rattle.tracees.specs.declared.book.Bookkeeping.{Ghosts as BookGhosts}
use Rattle.tracees.specs.declared.desk.Desk.{Desk}
use Rattle.tracees.specs.declared.traced.Traced.{Traced}
use Rattle.tracees.specs.declared.receipt.Receipt.{Receipt}
use Rattle.tracees.specs.declared.receipt.HandFault.{HandFault}
use Rattle.tracees.specs.declared.step.Step.TheVariants as steps
use Rattle.tracees.specs.declared.step.Reply.{Reply}
use Rattle.tracees.proofs.Places.{got, same_at, not_there}

module _ {P K S : Type 0} (port : PortGhosts P) (keep : BookGhosts K S) where
  -- ---- a desk alone

  pub no_desk : (desks : List (Desk P K S port keep)) (tracees : List Seat) (i : ℕ) → length desks ≤ i → NoDesk (places_with port keep desks tracees) i
  no_desk desks tracees i past = not_there (place_of port keep) desks i past

  alone : (desks : List (Desk P K S port keep)) (tracees : List Seat) (i : ℕ) (d d' : Desk P K S port keep) → i < length desks → SameBook (place_of port keep (get_or desks i d)) (place_of port keep d')
      → ActsAlone (places_with port keep desks tracees) (places_with port keep (set desks i d') tracees) i (place_of port keep (get_or desks i d)) (place_of port keep d')
  alone desks tracees i d d' less book =
      record { acts = record { there = got (place_of port keep) desks i d less; others = map-set (place_of port keep) desks i d' }; tracees = refl; book = book }

  pub flush_there : (desks : List (Desk P K S port keep)) (tracees : List Seat) (i : ℕ) (d d' : Desk P K S port keep) (result : Result ℕ PortFault) (reply : Reply) → i < length desks
      → Flushes (port.told (get_or desks i d).port.now) (port.told d'.port.now) result → SameBook (place_of port keep (get_or desks i d)) (place_of port keep d') → reply ≡ flush_reply result
      → IsStep port.told (places_with port keep desks tracees) (places_with port keep (set desks i d') tracees) (steps.Flush i) reply
  flush_there desks tracees i d d' result reply less is book told =
      flushes result (place_of port keep (get_or desks i d)) (place_of port keep d') (alone desks tracees i d d' less book) is told

  pub seal_there : (desks : List (Desk P K S port keep)) (tracees : List Seat) (i : ℕ) (d d' : Desk P K S port keep) (result : Result (Unit {0}) PortFault) (reply : Reply) → i < length desks
      → Seals (port.told (get_or desks i d).port.now) (port.told d'.port.now) result → SameBook (place_of port keep (get_or desks i d)) (place_of port keep d') → reply ≡ seal_reply result
      → IsStep port.told (places_with port keep desks tracees) (places_with port keep (set desks i d') tracees) (steps.Seal i) reply
  seal_there desks tracees i d d' result reply less is book told =
      seals result (place_of port keep (get_or desks i d)) (place_of port keep d') (alone desks tracees i d d' less book) is told

  pub tick_there : (desks : List (Desk P K S port keep)) (tracees : List Seat) (i now : ℕ) (d d' : Desk P K S port keep) (result : Result Bool PortFault) (reply : Reply) → i < length desks
      → Ticks (port.told (get_or desks i d).port.now) (port.told d'.port.now) now result → SameBook (place_of port keep (get_or desks i d)) (place_of port keep d') → reply ≡ tick_reply result
      → IsStep port.told (places_with port keep desks tracees) (places_with port keep (set desks i d') tracees) (steps.Tick i now) reply
  tick_there desks tracees i now d d' result reply less is book told =
      ticks result (place_of port keep (get_or desks i d)) (place_of port keep d') (alone desks tracees i d d' less book) is told

  -- ---- a tracee

  acts_for : (traced : List (Traced K S keep)) (desks desks' : List (Desk P K S port keep)) (i : ℕ) (t t' : Traced K S keep) → i < length traced
      → ActsFor (state_of port keep desks traced) (state_of port keep desks' (set traced i t')) i (seat_of keep (get_or traced i t)) (seat_of keep t')
  acts_for traced desks desks' i t t' less = record { there = got (seat_of keep) traced i t less; others = map-set (seat_of keep) traced i t' }

  pub no_tracee : (desks : List (Desk P K S port keep)) (traced : List (Traced K S keep)) (i : ℕ) → length traced ≤ i → NoTracee (state_of port keep desks traced) i
  no_tracee desks traced i past = not_there (seat_of keep) traced i past

  pub emit_there : (desks : List (Desk P K S port keep)) (traced : List (Traced K S keep)) (i : ℕ) (t t' : Traced K S keep) (event : Event) (stamp : Stamp) (result : Result Offer EmitFault) (reply : Reply)
      → i < length traced → Emits (get_or traced i t).tracee t'.tracee event stamp result → t'.desk ≡ (get_or traced i t).desk → keep.sums_of t'.account.slip ≡ keep.sums_of (get_or traced i t).account.slip
      → reply ≡ offer_reply result
      → IsStep port.told (state_of port keep desks traced) (state_of port keep desks (set traced i t')) (steps.Emit i event stamp) reply
  emit_there desks traced i t t' event stamp result reply less is desk sums told =
      emits result (seat_of keep (get_or traced i t)) (seat_of keep t')
      (record { acts = acts_for traced desks desks i t t' less; desks = refl; emits = is; desk = desk; sums = sums }) told

  -- ---- a tracee and its desk

  acts_on : (desks : List (Desk P K S port keep)) (traced traced' : List (Traced K S keep)) (k n : ℕ) (d d' : Desk P K S port keep) → k < length desks → k ≡ n
      → ActsOn (state_of port keep desks traced) (state_of port keep (set desks k d') traced') n (place_of port keep (get_or desks k d)) (place_of port keep d')
  acts_on desks traced traced' k n d d' less is =
      subst (λ (m : ℕ). ActsOn (state_of port keep desks traced) (state_of port keep (set desks k d') traced') m (place_of port keep (get_or desks k d)) (place_of port keep d')) is
      (record { there = got (place_of port keep) desks k d less; others = map-set (place_of port keep) desks k d' })

  -- the number of a tracee's desk, whatever the default
  desk_of : (traced : List (Traced K S keep)) (i k : ℕ) (t u : Traced K S keep) → i < length traced → k ≡ (get_or traced i t).desk → k ≡ (get_or traced i u).desk
  desk_of traced i k t u less is = is ∙ ap (λ (x : Traced K S keep). x.desk) (same_at traced i t u less)

  -- and so of a tracee that was read at its place
  pub desk_there : (traced : List (Traced K S keep)) (i k : ℕ) (t u : Traced K S keep) → i < length traced → t ≡ get_or traced i t → k ≡ t.desk → k ≡ (get_or traced i u).desk
  desk_there traced i k t u less read is = is ∙ ap (λ (x : Traced K S keep). x.desk) (read ∙ same_at traced i t u less)

  pub no_desk_for : (desks : List (Desk P K S port keep)) (traced : List (Traced K S keep)) (i k : ℕ) (t : Traced K S keep) → i < length traced → k ≡ (get_or traced i t).desk → length desks ≤ k
      → NoSeat (state_of port keep desks traced) i
  no_desk_for desks traced i k t less is past =
      nowhere (seat_of keep (get_or traced i t)) (got (seat_of keep) traced i t less) (not_there (place_of port keep) desks (get_or traced i t).desk (omega (arith, is, past)))

  pub hand_there : (desks : List (Desk P K S port keep)) (traced : List (Traced K S keep)) (i k limit : ℕ) (t u t' : Traced K S keep) (d d' : Desk P K S port keep) (result : Result Receipt HandFault) (reply : Reply)
      → AreNumbered (state_of port keep desks traced) → i < length traced → k ≡ (get_or traced i t).desk → k < length desks
      → HandsOver port.told (place_of port keep (get_or desks k d)) (place_of port keep d') limit (seat_of keep (get_or traced i u)) (seat_of keep t') result → reply ≡ hand_reply result
      → IsStep port.told (state_of port keep desks traced) (state_of port keep (set desks k d') (set traced i t')) (steps.HandOver i limit) reply
  hand_there desks traced i k limit t u t' d d' result reply numbered there is here hands told =
      let at = desk_of traced i k t u there is in
      hands_over result (seat_of keep (get_or traced i u)) (seat_of keep t') (place_of port keep (get_or desks k d)) (place_of port keep d')
      (acts_for traced desks (set desks k d') i u t' there) (acts_on desks traced (set traced i t') k (get_or traced i u).desk d d' here at)
      (numbered k (place_of port keep (get_or desks k d)) (got (place_of port keep) desks k d here) ∙ at) hands told

  pub flush_for_there : (desks : List (Desk P K S port keep)) (traced : List (Traced K S keep)) (i k : ℕ) (t u t' : Traced K S keep) (d d' : Desk P K S port keep) (result : Result Receipt HandFault) (reply : Reply)
      → AreNumbered (state_of port keep desks traced) → i < length traced → k ≡ (get_or traced i t).desk → k < length desks
      → FlushesFor port.told (place_of port keep (get_or desks k d)) (place_of port keep d') (seat_of keep (get_or traced i u)) (seat_of keep t') result → reply ≡ hand_reply result
      → IsStep port.told (state_of port keep desks traced) (state_of port keep (set desks k d') (set traced i t')) (steps.FlushFor i) reply
  flush_for_there desks traced i k t u t' d d' result reply numbered there is here flush told =
      let at = desk_of traced i k t u there is in
      flushes_for result (seat_of keep (get_or traced i u)) (seat_of keep t') (place_of port keep (get_or desks k d)) (place_of port keep d')
      (acts_for traced desks (set desks k d') i u t' there) (acts_on desks traced (set traced i t') k (get_or traced i u).desk d d' here at)
      (numbered k (place_of port keep (get_or desks k d)) (got (place_of port keep) desks k d here) ∙ at) flush told
