-- What a lender knows of a port that went through a desk.
use Rattle.std.proofs.Common.{◌≡◌, ◌≢◌, ◌⊎◌, inl, inr, ⊎_elim, ℕ, false, List, [], ◌∷◌, ◌++◌, take, Option, Some, None, Result, refl, sym, ◌∙◌, ap, subst}
use Rattle.std.proofs.lemmas.List.{append-nil}
use Rattle.entry_codec.specs.Entries.{Entry}
use Rattle.entry_codec.specs.Seen.{views}
use Rattle.trace_store.specs.Disk.{Image}
use Rattle.segment.specs.Specification.{Spec}
use Rattle.recovery.specs.Items.{Item}
use Rattle.recovery.specs.Views.{View, extend}
use Rattle.trace_store.specs.Moments.{Rose}
use Rattle.trace_store.specs.Device.{Device}
use Rattle.trace_port.specs.Port.{Told, AreSealed, Fits, Grows, IsSaved, Ends, has_sealed}
use Rattle.trace_port.specs.Calls.{IsCovered, HasFailed}
use Rattle.trace_port.specs.PortCalls.{Finishes}
use Rattle.trace_port.specs.declared.status.PortState.{PortState}
use Rattle.trace_port.specs.declared.status.PortState.TheVariants.{Live, Broken, Sealed}
use Rattle.trace_port.specs.declared.fault.PortFault.{PortFault}
use Rattle.intake.specs.Tracees.{waiting_of}
use Rattle.intake.specs.declared.tracee.Tracee.{Tracee}
use Rattle.tracees.specs.Books.{no_totals}
use Rattle.tracees.specs.Desks.{DeskState, Seat}
use Rattle.trace_port.specs.Effects.{effect, Calls}
use Rattle.tracees.specs.Hands.{TakesInOrder, none_left, takes_one, fails_at, stops_at, HandsOver, moved_by, items_moved, moves, is_refused, no_memory, is_stranger}
use Rattle.tracees.specs.Lent.{first_seat, HandsOne}
use Rattle.tracees.specs.declared.book.Totals.{Totals}
use Rattle.tracees.specs.declared.receipt.Receipt.{Receipt}
use Rattle.tracees.specs.declared.receipt.HandFault.{HandFault}
use Rattle.trace_port.proofs.Composed.{IsStill, calls_both, finish_calls, grows_of, joins_next}
use Rattle.tracees.proofs.Answered.{hands_calls}

-- a hand-over at a desk with its end
pub hands_one : {P : Type 0} (told : P → Told) (number : ℕ) (old end new : P) (limit : ℕ) (was is : Tracee) (result : Result Receipt HandFault) (first between : DeskState P) (seat then : Seat)
    → first.number ≡ number → first.port ≡ old → first.counted ≡ no_totals → seat.desk ≡ number → seat.tracee ≡ was → seat.sums ≡ no_totals
    → HandsOver told first between limit seat then result → is ≡ then.tracee → Finishes (told between.port) (told end) → new ≡ end → HandsOne told number old new limit was is result
hands_one {P} told number old end new limit was is result first between seat then number_is port counted desk tracee sums hands is_then finishes back = record {
  first = first;
  between = between;
  seat = then;
  number_is = number_is;
  port = port;
  counted = counted;
  hands = subst (λ (n : ℕ). HandsOver told first between limit (first_seat n was) then result) desk
      (subst (λ (t : Tracee). HandsOver told first between limit (first_seat seat.desk t) then result) tracee
      (subst (λ (s : Totals). HandsOver told first between limit (record { desk = seat.desk; tracee = seat.tracee; sums = s }) then result) sums hands));
  tracee = is_then;
  finishes = subst (λ (p : P). Finishes (told between.port) (told p)) (sym back) finishes;
}

-- what moved and what waits are what waited
hands_rest : {P : Type 0} (told : P → Told) (old new : DeskState P) (limit : ℕ) (was is : Seat) (result : Result Receipt HandFault) → HandsOver told old new limit was is result → waiting_of was.tracee ≡ moved_by result ++ waiting_of is.tracee
hands_rest told old new limit was is result (moves same m names) = m.rest
hands_rest told old new limit was is result (is_refused same m names) = m.rest
hands_rest told old new limit was is result (no_memory same none) = ap (λ (s : Seat). waiting_of s.tracee) (sym none.seat)
hands_rest told old new limit was is result (is_stranger other none) = ap (λ (s : Seat). waiting_of s.tracee) (sym none.seat)

pub one_rest : {P : Type 0} (told : P → Told) (number : ℕ) (old new : P) (limit : ℕ) (was is : Tracee) (result : Result Receipt HandFault) → HandsOne told number old new limit was is result → waiting_of was ≡ moved_by result ++ waiting_of is
one_rest told number old new limit was is result one =
    hands_rest told one.first one.between limit (first_seat number was) one.seat result one.hands ∙ ap (λ (t : Tracee). moved_by result ++ waiting_of t) (sym one.tracee)

-- ---- what it adds

pub one_grows : {P : Type 0} (told : P → Told) → ((p : P) → IsStill (told p)) → (number : ℕ) (old new : P) (limit : ℕ) (was is : Tracee) (result : Result Receipt HandFault) (one : HandsOne told number old new limit was is result)
    → Grows (told old) (told new) (items_moved result) (has_sealed (told one.between.port).state (told new).state)
one_grows {P} told still number old new limit was is result one =
    let mid = told one.between.port in
    let items = items_moved result in
    let covers = has_sealed mid.state (told new).state in
    let first : Calls (told old) mid (effect items false ∷ []) = subst (λ (p : P). Calls (told p) mid (effect items false ∷ [])) one.port (hands_calls told still one.first one.between limit (first_seat number was) one.seat result one.hands) in
    subst (λ (l : List Item). Grows (told old) (told new) l covers) (append-nil items)
    (grows_of (told old) (told new) (items ++ []) covers
    (joins_next (told old) (told new) items [] covers
    (calls_both (told old) mid (told new) (effect items false ∷ []) (effect [] covers ∷ []) first (finish_calls mid (told new) one.finishes))))

-- ---- what is there in the end

-- a live port stayed live without a fault, or its device has failed
abbrev WentOn : Told → Told → Type 0
WentOn old new = ((new.state ≡ Live) × (new.device.failures ≡ old.device.failures)) ⊎ ((new.state ≢ Live) × Rose old.device.failures new.device.failures)

broken_not_live : (s : PortState) → s ≡ Broken → s ≢ Live
broken_not_live s broken live = (let bad : Broken ≡ Live = sym broken ∙ live in cc)

went_both : (old mid new : Told) → mid.device.failures ≡ old.device.failures → WentOn mid new → WentOn old new
went_both old mid new same (inl on) = inl (on.0, on.1 ∙ same)
went_both old mid new same (inr failed) = inr (failed.0, subst (λ (n : ℕ). Rose n new.device.failures) same failed.1)

takes_went_on : {P : Type 0} (told : P → Told) (p q : P) (offered moved : List Entry) (fault : Option PortFault) → (told p).state ≡ Live → TakesInOrder told p offered moved fault q → WentOn (told p) (told q)
takes_went_on told p q offered moved fault live none_left = inl (live, refl)
takes_went_on told p q offered moved fault live (takes_one {q = mid} {e = e} {n = n} {es = es} {moved = more} {fault = fault'} accepts rest) =
    went_both (told p) (told mid) (told q) accepts.no_failure (takes_went_on told mid q es more fault' accepts.live rest)
takes_went_on told p q offered moved fault live (fails_at {e = e} accepts) =
    let failed = accepts.failed refl in
    inr (broken_not_live (told q).state failed.state, failed.cause)
takes_went_on told p q offered moved fault live (stops_at {e = e} {fault = why} accepts refused) =
    let same = accepts.refused refused in
    inl (same.state ∙ live, same.same.device.failures)

no_change_went_on : {P : Type 0} (told : P → Told) (old new : DeskState P) → new ≡ old → (told old.port).state ≡ Live → WentOn (told old.port) (told new.port)
no_change_went_on {P} told old new same live = subst (λ (p : DeskState P). WentOn (told old.port) (told p.port)) (sym same) (inl (live, refl))

hands_went_on : {P : Type 0} (told : P → Told) (old new : DeskState P) (limit : ℕ) (was is : Seat) (result : Result Receipt HandFault) → (told old.port).state ≡ Live → HandsOver told old new limit was is result → WentOn (told old.port) (told new.port)
hands_went_on told old new limit was is result live (moves {receipt = receipt} same m names) = takes_went_on told old.port new.port (take limit (waiting_of was.tracee)) (views receipt.entries.items) None live m.takes
hands_went_on told old new limit was is result live (is_refused {fault = fault} {receipt = receipt} same m names) = takes_went_on told old.port new.port (take limit (waiting_of was.tracee)) (views receipt.entries.items) (Some fault) live m.takes
hands_went_on told old new limit was is result live (no_memory same none) = no_change_went_on told old new none.place live
hands_went_on told old new limit was is result live (is_stranger other none) = no_change_went_on told old new none.place live

-- a store that was sealed is still sealed where no device call came
sealed_still : (spec spec' : Spec) (v0 : View) (items : List Item) (gate : ℕ) (images last : Image → Type 0) → spec' ≡ spec → ((image : Image) → last image → images image) → AreSealed spec' (extend spec' v0 items) gate images → AreSealed spec (extend spec v0 items) gate last
sealed_still spec spec' v0 items gate images last same earlier sealed =
    subst (λ (s : Spec). AreSealed s (extend s v0 items) gate last) same
    (record { chain = sealed.chain; alike = λ image left. sealed.alike image (earlier image left); view = sealed.view; sealed = sealed.sealed; gate = sealed.gate })

-- what a live port took is there after the end, or the device has failed
pub one_saved : {P : Type 0} (told : P → Told) → ((p : P) → IsStill (told p)) → (number : ℕ) (old new : P) (last : Device) (limit : ℕ) (was is : Tracee) (result : Result Receipt HandFault) → (told old).state ≡ Live → HandsOne told number old new limit was is result
    → Ends (told new) last → last.honest → (v0 : View) (c : ℕ) → Fits (told old) v0 [] c → (gate : ℕ) × IsSaved (told old) last v0 (items_moved result) gate
one_saved {P} told still number old new last limit was is result live one ends h v0 c f =
    let first = told old in
    let mid = told one.between.port in
    let end = told new in
    let items = items_moved result in
    let over = one.finishes in
    let idle = ends.idle over.over in
    let grows = one_grows told still number old new limit was is result one in
    let goes = grows.each (ends.was_honest h) v0 [] c f in
    let on : WentOn first mid = subst (λ (p : P). WentOn (told p) mid) one.port
    (hands_went_on told one.first one.between limit (first_seat number was) one.seat result (ap (λ (p : P). (told p).state) one.port ∙ live) one.hands) in
    ⊎_elim
    (λ (went : (mid.state ≡ Live) × (mid.device.failures ≡ first.device.failures)). ⊎_elim
    (λ (covered : IsCovered mid end Sealed). (end.gate, inl (sealed_still first.spec end.spec v0 items end.gate end.device.images last.images grows.spec (λ image left. idle.images.no_more image left) (goes.fits.sealed covered.state))))
    (λ (failed : HasFailed mid end). (0, inr (subst (λ (n : ℕ). Rose n last.failures) went.1 (subst (λ (n : ℕ). Rose mid.device.failures n) (sym idle.failures) failed.cause))))
    (over.was_live went.0))
    (λ (rose : (mid.state ≢ Live) × Rose first.device.failures mid.device.failures).
    (0, inr (subst (λ (n : ℕ). Rose first.device.failures n) (sym (idle.failures ∙ (over.not_live rose.0).same.device.failures)) rose.1)))
    on
