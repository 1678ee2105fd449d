-- The receipts of a run.
use Rattle.std.proofs.Common.{◌≡◌, ℕ, ◌≤◌, Bool, if◌then◌else◌, List, [], ◌∷◌, ◌++◌, map, slice_get, Option, Some, None, Result, Ok, Err, refl, sym, ◌∙◌, ap, subst, arith, append_assoc}
use Rattle.std.proofs.lemmas.List.{append-nil}
use Rattle.std.proofs.lemmas.Bool.{eq-eqb}
use Rattle.std.proofs.lemmas.Option.{same_Some}
use Rattle.entry_codec.specs.Entries.{joined}
use Rattle.entry_codec.specs.Seen.{views}
use Rattle.trace_store.specs.Disk.{Image}
use Rattle.segment.specs.Specification.{Spec}
use Rattle.recovery.specs.Items.{Item, Kept}
use Rattle.recovery.specs.Views.{View, extend, total}
use Rattle.trace_port.specs.Sound.{ReadsAs, covered_of}
use Rattle.trace_port.specs.Port.{Told, Fits}
use Rattle.trace_port.specs.declared.fault.PortFault.{PortFault}
use Rattle.intake.specs.declared.offer.Offer.{Offer}
use Rattle.intake.specs.declared.fault.EmitFault.{EmitFault}
use Rattle.tracees.specs.Agreement.{IsAgreed}
use Rattle.tracees.specs.Desks.{DeskState, Seat}
use Rattle.tracees.specs.Hands.{Names, HandsOver, FlushesFor, moves, is_refused, no_memory, is_stranger, covers, flush_fails}
use Rattle.tracees.specs.Steps.{State, ActsOn, IsStep, emits, hands_over, flushes_for, flushes, seals, ticks, emit_unknown, hand_unknown, flush_for_unknown, flush_unknown, seal_unknown, tick_unknown, offer_reply, hand_reply, flush_reply, seal_reply, tick_reply, Run, ends, goes_on}
use Rattle.trace_port.specs.Effects.{Effect, effect, no_effect, items_in, covered_by, Calls}
use Rattle.tracees.specs.Effects.{received, receipt_in, is_receipt, effect_at, effects_at}
use Rattle.tracees.specs.Moments.{Parts, AreReceiptsKept}
use Rattle.tracees.specs.declared.receipt.Receipt.{Receipt}
use Rattle.tracees.specs.declared.receipt.HandFault.{HandFault}
use Rattle.tracees.specs.declared.step.Step.{Step}
use Rattle.tracees.specs.declared.step.Reply.{Reply}
use Rattle.tracees.proofs.Agreements.{covered_grows, receipt_agrees}
use Rattle.trace_port.proofs.Composed.{IsStill, covered_more}
use Rattle.tracees.proofs.Places.{written}
use Rattle.tracees.proofs.Runs.{run_calls, step_calls}

-- ---- a run is parted at each of its replies

record Split {P : Type 0} (told : P → Told) (first : State P) (steps : List Step) (replies : List Reply) (last : State P) (reply : Reply) : Type 0 where
  now : State P
  mid : State P
  steps_before : List Step
  before : List Reply
  step : Step
  parts : Parts told first steps replies last now mid steps_before before step reply

one_more : {P : Type 0} (told : P → Told) (old mid new : State P) (x : Step) (xs : List Step) (r : Reply) (rs : List Reply) (reply : Reply) → IsStep told old mid x r → Split told mid xs rs new reply → Split told old (x ∷ xs) (r ∷ rs) new reply
one_more told old mid new x xs r rs reply one s = record {
  now = s.now;
  mid = s.mid;
  steps_before = x ∷ s.steps_before;
  before = r ∷ s.before;
  step = s.step;
  parts = record {
    steps_after = s.parts.steps_after;
    after = s.parts.after;
    steps_are = ap (λ (l : List Step). x ∷ l) s.parts.steps_are;
    replies_are = ap (λ (l : List Reply). r ∷ l) s.parts.replies_are;
    run_before = goes_on one s.parts.run_before;
    acts = s.parts.acts;
    run_after = s.parts.run_after;
  };
}

split_at : {P : Type 0} (told : P → Told) (old new : State P) (steps : List Step) (rs : List Reply) → Run told old steps rs new → (before after : List Reply) (reply : Reply) → rs ≡ before ++ reply ∷ after → Split told old steps rs new reply
split_at told old new steps rs ends [] after reply e = absurd (cc)
split_at told old new steps rs ends (b ∷ before) after reply e = absurd (cc)
split_at told old new steps rs (goes_on {mid = mid} {step = x} {steps = xs} {reply = r} {replies = more} one rest) [] after reply e =
    let same : r ≡ reply = cc in
    record {
      now = old;
      mid = mid;
      steps_before = [];
      before = [];
      step = x;
      parts = record {
        steps_after = xs;
        after = more;
        steps_are = refl;
        replies_are = ap (λ (y : Reply). y ∷ more) same;
        run_before = ends;
        acts = subst (λ (y : Reply). IsStep told old mid x y) same one;
        run_after = rest;
      };
    }
split_at told old new steps rs (goes_on {mid = mid} {step = x} {steps = xs} {reply = r} {replies = more} one rest) (b ∷ before) after reply e =
    let left : more ≡ before ++ reply ∷ after = cc in
    one_more told old mid new x xs r more reply one (split_at told mid new xs more rest before after reply left)

-- ---- what a receipt says of the step that it answers

-- the desk of this number before the step and after it, whose port the receipt tells of
record Tells {P : Type 0} (told : P → Told) (old new : State P) (x : Step) (reply : Reply) (receipt : Receipt) : Type 0 where
  desk : DeskState P
  desk' : DeskState P
  there : slice_get old.desks receipt.desk ≡ Some desk
  there' : slice_get new.desks receipt.desk ≡ Some desk'
  first : receipt.first ≡ (told desk.port).total
  covered : receipt.covered ≡ (told desk'.port).covered
  items : (effect_at receipt.desk x reply).items ≡ map Kept (views receipt.entries.items)

no_receipt : {A : Type 0} (receipt : Receipt) → ◌≡◌ {A = Option Receipt} None (Some receipt) → A
no_receipt receipt e = absurd (cc)

no_offered_receipt : (result : Result Offer EmitFault) → receipt_in (offer_reply result) ≡ None
no_offered_receipt (Ok offer) = refl
no_offered_receipt (Err fault) = refl

no_flushed_receipt : (result : Result ℕ PortFault) → receipt_in (flush_reply result) ≡ None
no_flushed_receipt (Ok n) = refl
no_flushed_receipt (Err fault) = refl

no_sealed_receipt : (result : Result (Unit {0}) PortFault) → receipt_in (seal_reply result) ≡ None
no_sealed_receipt (Ok done) = refl
no_sealed_receipt (Err fault) = refl

no_ticked_receipt : (result : Result Bool PortFault) → receipt_in (tick_reply result) ≡ None
no_ticked_receipt (Ok cut) = refl
no_ticked_receipt (Err fault) = refl

-- the receipt that an answer has names what it should
hand_names : {P : Type 0} (told : P → Told) (p q : DeskState P) (limit : ℕ) (was is : Seat) (result : Result Receipt HandFault) → HandsOver told p q limit was is result → (receipt : Receipt) → receipt_in (hand_reply result) ≡ Some receipt
    → Names (told p.port) (told q.port) was receipt
hand_names told p q limit was is result (moves {receipt = one} same m names) receipt e = subst (λ (r : Receipt). Names (told p.port) (told q.port) was r) (same_Some one receipt e) names
hand_names told p q limit was is result (is_refused {receipt = one} same m names) receipt e = subst (λ (r : Receipt). Names (told p.port) (told q.port) was r) (same_Some one receipt e) names
hand_names told p q limit was is result (no_memory same none) receipt e = no_receipt receipt e
hand_names told p q limit was is result (is_stranger other none) receipt e = no_receipt receipt e

flush_for_names : {P : Type 0} (told : P → Told) (p q : DeskState P) (was is : Seat) (result : Result Receipt HandFault) → FlushesFor told p q was is result → (receipt : Receipt) → receipt_in (hand_reply result) ≡ Some receipt
    → Names (told p.port) (told q.port) was receipt
flush_for_names told p q was is result (covers {receipt = one} between mid same f book account) receipt e = subst (λ (r : Receipt). Names (told p.port) (told q.port) was r) (same_Some one receipt e) f.names
flush_for_names told p q was is result (flush_fails {receipt = one} between same f book) receipt e = subst (λ (r : Receipt). Names (told p.port) (told q.port) was r) (same_Some one receipt e) f.names
flush_for_names told p q was is result (is_refused {receipt = one} same m names) receipt e = subst (λ (r : Receipt). Names (told p.port) (told q.port) was r) (same_Some one receipt e) names
flush_for_names told p q was is result (no_memory same none) receipt e = no_receipt receipt e
flush_for_names told p q was is result (is_stranger other none) receipt e = no_receipt receipt e

received_of : (flushed : Bool) (receipt : Receipt) (found : Option Receipt) → found ≡ Some receipt → (received receipt.desk flushed found).items ≡ map Kept (views receipt.entries.items)
received_of flushed receipt found e =
    let one = effect (map Kept (views receipt.entries.items)) flushed in
    ap (λ (o : Option Receipt). (received receipt.desk flushed o).items) e ∙ ap (λ (x : Bool). (if x then one else no_effect).items) (eq-eqb receipt.desk receipt.desk refl)

names_desk : {P : Type 0} (told : P → Told) (old new : State P) (x : Step) (reply : Reply) (was : Seat) (p q : DeskState P) (receipt : Receipt) → ActsOn old new was.desk p q → Names (told p.port) (told q.port) was receipt
    → (effect_at receipt.desk x reply).items ≡ map Kept (views receipt.entries.items) → Tells told old new x reply receipt
names_desk {P} told old new x reply was p q receipt acts names items = record {
  desk = p;
  desk' = q;
  there = ap (λ (i : ℕ). slice_get old.desks i) names.desk ∙ acts.there;
  there' = ap (λ (i : ℕ). slice_get new.desks i) names.desk ∙ ap (λ (l : List (DeskState P)). slice_get l was.desk) acts.others ∙ written old.desks was.desk p q acts.there;
  first = names.first;
  covered = names.covered;
  items = items;
}

step_tells : {P : Type 0} (told : P → Told) (old new : State P) (x : Step) (reply : Reply) → IsStep told old new x reply → (receipt : Receipt) → receipt_in reply ≡ Some receipt → Tells told old new x reply receipt
step_tells told old new x reply (emits result was is e same) receipt found = no_receipt receipt (sym (no_offered_receipt result) ∙ ap receipt_in (sym same) ∙ found)
step_tells told old new x reply (hands_over {limit = limit} result was is p q for on number h same) receipt found =
    names_desk told old new x reply was p q receipt on (hand_names told p q limit was is result h receipt (ap receipt_in (sym same) ∙ found)) (received_of _ receipt (receipt_in reply) found)
step_tells told old new x reply (flushes_for result was is p q for on number f same) receipt found =
    names_desk told old new x reply was p q receipt on (flush_for_names told p q was is result f receipt (ap receipt_in (sym same) ∙ found)) (received_of (is_receipt reply) receipt (receipt_in reply) found)
step_tells told old new x reply (flushes result p q alone f same) receipt found = no_receipt receipt (sym (no_flushed_receipt result) ∙ ap receipt_in (sym same) ∙ found)
step_tells told old new x reply (seals result p q alone f same) receipt found = no_receipt receipt (sym (no_sealed_receipt result) ∙ ap receipt_in (sym same) ∙ found)
step_tells told old new x reply (ticks result p q alone f same) receipt found = no_receipt receipt (sym (no_ticked_receipt result) ∙ ap receipt_in (sym same) ∙ found)
step_tells told old new x reply (emit_unknown none same) receipt found = no_receipt receipt found
step_tells told old new x reply (hand_unknown none same) receipt found = no_receipt receipt found
step_tells told old new x reply (flush_for_unknown none same) receipt found = no_receipt receipt found
step_tells told old new x reply (flush_unknown none same) receipt found = no_receipt receipt found
step_tells told old new x reply (seal_unknown none same) receipt found = no_receipt receipt found
step_tells told old new x reply (tick_unknown none same) receipt found = no_receipt receipt found

-- ---- receipts and images

-- a receipt of a step that has this effect, with what was called before it and after it
kept_there : (first now mid last : Told) (v0 : View) (ys : List Item) (c : ℕ) (before after : List Effect) (e : Effect) (receipt : Receipt)
    → Calls first now before → Calls now mid (e ∷ []) → Calls mid last after → last.device.honest → Fits first v0 ys c
    → receipt.first ≡ now.total → receipt.covered ≡ mid.covered → e.items ≡ map Kept (views receipt.entries.items)
    → (image : Image) (window : View) (sealed : Bool) → last.device.images image → ReadsAs last.spec window sealed image → IsAgreed window.first (joined window.runs) receipt
kept_there first now mid last v0 ys c before after e receipt one two three h f number covered items image window sealed is reads =
    let h_mid = three.was_honest h in
    let h_now = two.was_honest h_mid in
    let ys_now = ys ++ items_in before in
    let c_now = covered_by v0 ys c before in
    let at_now = (one.each h_now v0 ys c f).fits in
    let ys_mid = ys_now ++ items_in (e ∷ []) in
    let c_mid = covered_by v0 ys_now c_now (e ∷ []) in
    let at_mid = (two.each h_mid v0 ys_now c_now at_now).fits in
    let zs = ys_mid ++ items_in after in
    let c_last = covered_by v0 ys_mid c_mid after in
    let at_last = (three.each h v0 ys_mid c_mid at_mid).fits in
    let es = views receipt.entries.items in
    let spec : now.spec ≡ last.spec = sym (three.spec ∙ two.spec) in
    let splits : zs ≡ ys_now ++ (map Kept es ++ items_in after) =
    append_assoc ys_now (items_in (e ∷ [])) (items_in after) ∙ ap (λ (l : List Item). ys_now ++ (l ++ items_in after)) (append-nil e.items ∙ items) in
    let first_is : receipt.first ≡ total (extend last.spec v0 ys_now) = number ∙ at_now.total ∙ ap (λ (s : Spec). total (extend s v0 ys_now)) spec in
    let rises : covered_of v0 ys_mid c_mid ≤ covered_of v0 zs c_last = covered_grows v0 ys_mid (items_in after) c_mid c_last at_mid.up_to (covered_more v0 ys_mid c_mid after at_mid.up_to) in
    receipt_agrees last.spec v0 ys_now es (items_in after) zs c_last receipt image window sealed splits refl first_is (omega (arith, covered, at_mid.covered, rises)) (at_last.sound image is) reads

pub receipts_kept : {P : Type 0} (told : P → Told) → ((p : P) → IsStill (told p)) → (first : State P) (steps : List Step) (rs : List Reply) (last : State P) → Run told first steps rs last → AreReceiptsKept told first rs last
receipts_kept {P} told still first steps rs last run place a d at_a at_d h v0 ys c f before after reply receipt parted found of image window sealed is reads =
    let s = split_at told first last steps rs run before after reply parted in
    let t = step_tells told s.now s.mid s.step reply s.parts.acts receipt found in
    let there : slice_get s.now.desks place ≡ Some t.desk = ap (λ (i : ℕ). slice_get s.now.desks i) (sym of) ∙ t.there in
    let there' : slice_get s.mid.desks place ≡ Some t.desk' = ap (λ (i : ℕ). slice_get s.mid.desks i) (sym of) ∙ t.there' in
    let items : (effect_at place s.step reply).items ≡ map Kept (views receipt.entries.items) = ap (λ (i : ℕ). (effect_at i s.step reply).items) (sym of) ∙ t.items in
    kept_there (told a.port) (told t.desk.port) (told t.desk'.port) (told d.port) v0 ys c (effects_at place s.steps_before s.before) (effects_at place s.parts.steps_after s.parts.after) (effect_at place s.step reply) receipt
    (run_calls told still first s.now s.steps_before s.before s.parts.run_before place a t.desk at_a there)
    (step_calls told still s.now s.mid s.step reply s.parts.acts place t.desk t.desk' there there')
    (run_calls told still s.mid last s.parts.steps_after s.parts.after s.parts.run_after place t.desk' d there' at_d)
    h f t.first t.covered items image window sealed is reads
