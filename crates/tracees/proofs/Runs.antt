-- What a run does at one desk.
use Rattle.std.proofs.Common.{◌≡◌, ◌≢◌, inl, inr, ⊎_elim, ℕ, ◌≤◌, Bool, true, false, nat_eq, if◌then◌else◌, List, [], ◌∷◌, ◌++◌, map, slice_get, Some, Result, Ok, Err, refl, sym, ◌∙◌, ap, subst, arith, append_assoc}
use Rattle.std.proofs.lemmas.List.{append-nil}
use Rattle.std.proofs.lemmas.Bool.{eq-eqb, ne_eqb, cases_eq}
use Rattle.std.proofs.lemmas.Option.{same_Some}
use Rattle.entry_codec.specs.Seen.{views}
use Rattle.trace_store.specs.Disk.{Image}
use Rattle.recovery.specs.Items.{Item, Kept, Cut}
use Rattle.recovery.specs.Views.{View}
use Rattle.trace_store.specs.Device.{Leaves}
use Rattle.trace_port.specs.Sound.{Sound}
use Rattle.trace_port.specs.Port.{Told, Fits}
use Rattle.trace_port.specs.Ticks.{due, ticked, cut_if}
use Rattle.trace_port.specs.Calls.{went}
use Rattle.trace_port.specs.PortCalls.{Ticks}
use Rattle.trace_port.specs.declared.fault.PortFault.{PortFault}
use Rattle.trace_port.specs.declared.fault.PortFault.TheVariants as faults
use Rattle.tracees.specs.Desks.{DeskState, Seat}
use Rattle.tracees.specs.Hands.{HandsOver, FlushesFor, moves, is_refused, no_memory, is_stranger, covers, flush_fails, items_moved, has_gone}
use Rattle.tracees.specs.Steps.{State, ActsOn, IsStep, emits, hands_over, flushes_for, flushes, seals, ticks, emit_unknown, hand_unknown, flush_for_unknown, flush_unknown, seal_unknown, tick_unknown, hand_reply, flush_reply, seal_reply, tick_reply, Run, ends, goes_on}
use Rattle.trace_port.specs.Effects.{Effect, effect, no_effect, items_in, covered_by, Calls}
use Rattle.tracees.specs.Effects.{received, receipt_in, is_receipt, is_acknowledged, has_cut, effect_at, effects_at}
use Rattle.tracees.specs.Moments.{AreGrown, AroundStep, AreSound, Parts, EachMoment}
use Rattle.tracees.specs.declared.receipt.Receipt.{Receipt}
use Rattle.tracees.specs.declared.receipt.HandFault.{HandFault}
use Rattle.tracees.specs.declared.receipt.HandFault.TheVariants as hands
use Rattle.tracees.specs.declared.step.Step.{Step}
use Rattle.tracees.specs.declared.step.Reply.{Reply}
use Rattle.trace_port.proofs.Runs.{failed_was_due}
use Rattle.trace_port.proofs.Composed.{IsStill, items_in-append, calls_both, no_call, no_effect_call, flush_calls, seal_calls, tick_calls}
use Rattle.tracees.proofs.Answered.{hands_calls, flushes_for_calls}
use Rattle.tracees.proofs.Places.{written, not_written}

-- what a port owes: since now there is nothing but the images of now, and those are there since any moment
pub record Stands (port : Told) : Type 0 where
  pub only_now : IsStill port
  pub counts_now : port.device.honest → (t : ℕ) (image : Image) → t ≤ port.device.clock → port.device.images image → port.device.moments t image

-- ---- what a reply tells of a desk

here : {A : Type 0} (n place : ℕ) (a b : A) → n ≡ place → (if nat_eq n place then a else b) ≡ a
here n place a b is = ap (λ (x : Bool). if x then a else b) (eq-eqb n place is)

elsewhere : {A : Type 0} (n place : ℕ) (a b : A) → n ≢ place → (if nat_eq n place then a else b) ≡ b
elsewhere n place a b isnt = ap (λ (x : Bool). if x then a else b) (ne_eqb n place isnt)

either_way : {A : Type 0} (x : Bool) (a : A) → (if x then a else a) ≡ a
either_way true a = refl
either_way false a = refl

-- the receipt of an answer, where there is one, names this desk
abbrev IsOf : ℕ → Result Receipt HandFault → Type 0
IsOf place (Ok receipt) = receipt.desk ≡ place
IsOf place (Err (hands.Port fault receipt)) = receipt.desk ≡ place
IsOf place (Err hands.NoMemory) = Unit {0}
IsOf place (Err hands.Stranger) = Unit {0}

hand_is_of : {P : Type 0} (told : P → Told) (p q : DeskState P) (limit : ℕ) (was is : Seat) (result : Result Receipt HandFault) → HandsOver told p q limit was is result → IsOf was.desk result
hand_is_of told p q limit was is result (moves same m names) = names.desk
hand_is_of told p q limit was is result (is_refused same m names) = names.desk
hand_is_of told p q limit was is result (no_memory same none) = tt
hand_is_of told p q limit was is result (is_stranger other none) = tt

flush_for_is_of : {P : Type 0} (told : P → Told) (p q : DeskState P) (was is : Seat) (result : Result Receipt HandFault) → FlushesFor told p q was is result → IsOf was.desk result
flush_for_is_of told p q was is result (covers between mid same f book account) = f.names.desk
flush_for_is_of told p q was is result (flush_fails between same f book) = f.names.desk
flush_for_is_of told p q was is result (is_refused same m names) = names.desk
flush_for_is_of told p q was is result (no_memory same none) = tt
flush_for_is_of told p q was is result (is_stranger other none) = tt

received_here : (place : ℕ) (flushed : Bool) (receipt : Receipt) → receipt.desk ≡ place → received place flushed (Some receipt) ≡ effect (map Kept (views receipt.entries.items)) flushed
received_here place flushed receipt is = here receipt.desk place (effect (map Kept (views receipt.entries.items)) flushed) no_effect is

received_elsewhere : (place : ℕ) (flushed : Bool) (receipt : Receipt) → receipt.desk ≢ place → received place flushed (Some receipt) ≡ no_effect
received_elsewhere place flushed receipt isnt = elsewhere receipt.desk place (effect (map Kept (views receipt.entries.items)) flushed) no_effect isnt

hand_here : (place : ℕ) (result : Result Receipt HandFault) → IsOf place result → received place false (receipt_in (hand_reply result)) ≡ effect (items_moved result) false
hand_here place (Ok receipt) is = received_here place false receipt is
hand_here place (Err (hands.Port fault receipt)) is = received_here place false receipt is
hand_here place (Err hands.NoMemory) is = refl
hand_here place (Err hands.Stranger) is = refl

flush_for_here : (place : ℕ) (result : Result Receipt HandFault) → IsOf place result → received place (is_receipt (hand_reply result)) (receipt_in (hand_reply result)) ≡ effect (items_moved result) (has_gone result)
flush_for_here place (Ok receipt) is = received_here place true receipt is
flush_for_here place (Err (hands.Port fault receipt)) is = received_here place false receipt is
flush_for_here place (Err hands.NoMemory) is = refl
flush_for_here place (Err hands.Stranger) is = refl

hand_elsewhere : (at place : ℕ) (flushed : Bool) (result : Result Receipt HandFault) → IsOf at result → at ≢ place → received place flushed (receipt_in (hand_reply result)) ≡ no_effect
hand_elsewhere at place flushed (Ok receipt) is isnt = received_elsewhere place flushed receipt (λ e. isnt (sym is ∙ e))
hand_elsewhere at place flushed (Err (hands.Port fault receipt)) is isnt = received_elsewhere place flushed receipt (λ e. isnt (sym is ∙ e))
hand_elsewhere at place flushed (Err hands.NoMemory) is isnt = refl
hand_elsewhere at place flushed (Err hands.Stranger) is isnt = refl

flush_acknowledged : (result : Result ℕ PortFault) → went result ≡ is_acknowledged (flush_reply result)
flush_acknowledged (Ok n) = refl
flush_acknowledged (Err fault) = refl

seal_acknowledged : (result : Result (Unit {0}) PortFault) → went result ≡ is_acknowledged (seal_reply result)
seal_acknowledged (Ok done) = refl
seal_acknowledged (Err fault) = refl

abbrev cut_items : Bool → List Item
cut_items cut = if cut then Cut ∷ [] else []

same_cut : (cut : Bool) → cut_if cut ≡ cut_items cut
same_cut true = refl
same_cut false = refl

tick_items : (old new : Told) (now : ℕ) (result : Result Bool PortFault) → Ticks old new now result → ticked (due old now) result ≡ cut_items (has_cut (tick_reply result))
tick_items old new now (Ok cut) t = ap cut_if (sym t.answer) ∙ same_cut cut
tick_items old new now (Err faults.Device) t = ap cut_if (failed_was_due old new now (due old now) refl t)
tick_items old new now (Err faults.Broken) t = refl
tick_items old new now (Err faults.Sealed) t = refl
tick_items old new now (Err faults.CountFull) t = refl
tick_items old new now (Err faults.FileFull) t = refl

-- ---- a step at one desk

-- the desk that was at this place has made calls with these effects
pub record Went {P : Type 0} (told : P → Told) (new : State P) (place : ℕ) (p : DeskState P) (effects : List Effect) : Type 0 where
  pub desk : DeskState P
  pub there : slice_get new.desks place ≡ Some desk
  pub calls : Calls (told p.port) (told desk.port) effects

-- a step that touches no desk
stayed : {P : Type 0} (told : P → Told) → ((p : P) → IsStill (told p)) → (old new : State P) → new.desks ≡ old.desks → (place : ℕ) (p : DeskState P) → slice_get old.desks place ≡ Some p → (e : Effect) → e ≡ no_effect
    → Went told new place p (e ∷ [])
stayed {P} told still old new same place p at e none = record {
  desk = p;
  there = ap (λ (l : List (DeskState P)). slice_get l place) same ∙ at;
  calls = subst (λ (x : Effect). Calls (told p.port) (told p.port) (x ∷ [])) (sym none) (no_effect_call (told p.port) (still p.port));
}

-- a step at this desk or at another
acted : {P : Type 0} (told : P → Told) → ((p : P) → IsStill (told p)) → (old new : State P) (at : ℕ) (a b : DeskState P) (effect_of : ℕ → Effect) → ActsOn old new at a b
    → Calls (told a.port) (told b.port) (effect_of at ∷ []) → ((place : ℕ) → at ≢ place → effect_of place ≡ no_effect)
    → (place : ℕ) (p : DeskState P) → slice_get old.desks place ≡ Some p → Went told new place p (effect_of place ∷ [])
acted {P} told still old new at a b effect_of acts calls others place p there = ⊎_elim
    (λ (is : at ≡ place).
    let same : a ≡ p = same_Some a p (sym acts.there ∙ ap (λ (i : ℕ). slice_get old.desks i) is ∙ there) in
    let one : Went told new at a (effect_of at ∷ []) = record { desk = b; there = ap (λ (l : List (DeskState P)). slice_get l at) acts.others ∙ written old.desks at a b acts.there; calls = calls } in
    subst (λ (i : ℕ). Went told new i p (effect_of i ∷ [])) is (subst (λ (x : DeskState P). Went told new at x (effect_of at ∷ [])) same one))
    (λ (isnt : at ≢ place). record {
      desk = p;
      there = ap (λ (l : List (DeskState P)). slice_get l place) acts.others ∙ not_written old.desks at place b isnt ∙ there;
      calls = subst (λ (x : Effect). Calls (told p.port) (told p.port) (x ∷ [])) (sym (others place isnt)) (no_effect_call (told p.port) (still p.port));
    })
    (cases_eq at place)

-- a step at a desk alone, with this effect there
acted_alone : {P : Type 0} (told : P → Told) → ((p : P) → IsStill (told p)) → (old new : State P) (at : ℕ) (a b : DeskState P) (e : Effect) → ActsOn old new at a b → Calls (told a.port) (told b.port) (e ∷ [])
    → (place : ℕ) (p : DeskState P) → slice_get old.desks place ≡ Some p → Went told new place p ((if nat_eq at place then e else no_effect) ∷ [])
acted_alone told still old new at a b e acts calls =
    acted told still old new at a b (λ place. if nat_eq at place then e else no_effect) acts
    (subst (λ (x : Effect). Calls (told a.port) (told b.port) (x ∷ [])) (sym (here at at e no_effect refl)) calls)
    (λ place isnt. elsewhere at place e no_effect isnt)

pub step_went : {P : Type 0} (told : P → Told) → ((p : P) → IsStill (told p)) → (old new : State P) (x : Step) (reply : Reply) → IsStep told old new x reply
    → (place : ℕ) (p : DeskState P) → slice_get old.desks place ≡ Some p → Went told new place p (effect_at place x reply ∷ [])
step_went told still old new x reply (emits result was is e same) place p at = stayed told still old new e.desks place p at no_effect refl
step_went told still old new x reply (hands_over {limit = limit} result was is a b for on number h same) place p at =
    let of = hand_is_of told a b limit was is result h in
    acted told still old new was.desk a b (λ i. received i false (receipt_in reply)) on
    (subst (λ (e : Effect). Calls (told a.port) (told b.port) (e ∷ [])) (sym (ap (λ (r : Reply). received was.desk false (receipt_in r)) same ∙ hand_here was.desk result of)) (hands_calls told still a b limit was is result h))
    (λ i isnt. ap (λ (r : Reply). received i false (receipt_in r)) same ∙ hand_elsewhere was.desk i false result of isnt) place p at
step_went told still old new x reply (flushes_for result was is a b for on number f same) place p at =
    let of = flush_for_is_of told a b was is result f in
    acted told still old new was.desk a b (λ i. received i (is_receipt reply) (receipt_in reply)) on
    (subst (λ (e : Effect). Calls (told a.port) (told b.port) (e ∷ [])) (sym (ap (λ (r : Reply). received was.desk (is_receipt r) (receipt_in r)) same ∙ flush_for_here was.desk result of)) (flushes_for_calls told still a b was is result f))
    (λ i isnt. ap (λ (r : Reply). received i (is_receipt reply) (receipt_in r)) same ∙ hand_elsewhere was.desk i (is_receipt reply) result of isnt) place p at
step_went told still old new x reply (flushes {desk = desk} result a b alone f same) place p at =
    acted_alone told still old new desk a b (effect [] (is_acknowledged reply)) alone.acts
    (subst (λ (flushed : Bool). Calls (told a.port) (told b.port) (effect [] flushed ∷ [])) (flush_acknowledged result ∙ ap is_acknowledged (sym same)) (flush_calls (told a.port) (told b.port) result f)) place p at
step_went told still old new x reply (seals {desk = desk} result a b alone f same) place p at =
    acted_alone told still old new desk a b (effect [] (is_acknowledged reply)) alone.acts
    (subst (λ (flushed : Bool). Calls (told a.port) (told b.port) (effect [] flushed ∷ [])) (seal_acknowledged result ∙ ap is_acknowledged (sym same)) (seal_calls (told a.port) (told b.port) result f)) place p at
step_went told still old new x reply (ticks {desk = desk} {now = now} result a b alone t same) place p at =
    acted_alone told still old new desk a b (effect (cut_items (has_cut reply)) false) alone.acts
    (subst (λ (items : List Item). Calls (told a.port) (told b.port) (effect items false ∷ [])) (tick_items (told a.port) (told b.port) now result t ∙ ap (λ (r : Reply). cut_items (has_cut r)) (sym same)) (tick_calls (told a.port) (told b.port) now result t)) place p at
step_went {P} told still old new x reply (emit_unknown none same) place p at = stayed told still old new (ap (λ (s : State P). s.desks) same) place p at no_effect refl
step_went {P} told still old new x reply (hand_unknown none same) place p at = stayed told still old new (ap (λ (s : State P). s.desks) same) place p at no_effect refl
step_went {P} told still old new x reply (flush_for_unknown none same) place p at = stayed told still old new (ap (λ (s : State P). s.desks) same) place p at no_effect refl
step_went {P} told still old new x reply (flush_unknown {desk = desk} none same) place p at = stayed told still old new (ap (λ (s : State P). s.desks) same) place p at _ (either_way (nat_eq desk place) no_effect)
step_went {P} told still old new x reply (seal_unknown {desk = desk} none same) place p at = stayed told still old new (ap (λ (s : State P). s.desks) same) place p at _ (either_way (nat_eq desk place) no_effect)
step_went {P} told still old new x reply (tick_unknown {desk = desk} none same) place p at = stayed told still old new (ap (λ (s : State P). s.desks) same) place p at _ (either_way (nat_eq desk place) no_effect)

-- ---- a run at one desk

pub run_went : {P : Type 0} (told : P → Told) → ((p : P) → IsStill (told p)) → (old new : State P) (steps : List Step) (rs : List Reply) → Run told old steps rs new
    → (place : ℕ) (p : DeskState P) → slice_get old.desks place ≡ Some p → Went told new place p (effects_at place steps rs)
run_went told still old new steps rs ends place p at = record { desk = p; there = at; calls = no_call (told p.port) (still p.port) }
run_went told still old new steps rs (goes_on {mid = mid} {step = x} {steps = xs} {reply = reply} {replies = more} one rest) place p at =
    let first = step_went told still old mid x reply one place p at in
    let later = run_went told still mid new xs more rest place first.desk first.there in
    record { desk = later.desk; there = later.there; calls = calls_both (told p.port) (told first.desk.port) (told later.desk.port) (effect_at place x reply ∷ []) (effects_at place xs more) first.calls later.calls }

-- to the desk that is there
calls_to : {P : Type 0} (told : P → Told) (new : State P) (place : ℕ) (p q : DeskState P) (effects : List Effect) → Went told new place p effects → slice_get new.desks place ≡ Some q → Calls (told p.port) (told q.port) effects
calls_to {P} told new place p q effects went at = subst (λ (d : DeskState P). Calls (told p.port) (told d.port) effects) (same_Some went.desk q (sym went.there ∙ at)) went.calls

pub step_calls : {P : Type 0} (told : P → Told) → ((p : P) → IsStill (told p)) → (old new : State P) (x : Step) (reply : Reply) → IsStep told old new x reply
    → (place : ℕ) (p q : DeskState P) → slice_get old.desks place ≡ Some p → slice_get new.desks place ≡ Some q → Calls (told p.port) (told q.port) (effect_at place x reply ∷ [])
step_calls told still old new x reply is place p q at later = calls_to told new place p q (effect_at place x reply ∷ []) (step_went told still old new x reply is place p at) later

pub run_calls : {P : Type 0} (told : P → Told) → ((p : P) → IsStill (told p)) → (old new : State P) (steps : List Step) (rs : List Reply) → Run told old steps rs new
    → (place : ℕ) (p q : DeskState P) → slice_get old.desks place ≡ Some p → slice_get new.desks place ≡ Some q → Calls (told p.port) (told q.port) (effects_at place steps rs)
run_calls told still old new steps rs run place p q at later = calls_to told new place p q (effects_at place steps rs) (run_went told still old new steps rs run place p at) later

pub are_grown : {P : Type 0} (told : P → Told) → ((p : P) → IsStill (told p)) → (first : State P) (steps : List Step) (rs : List Reply) (last : State P) → Run told first steps rs last → AreGrown told first steps rs last
are_grown told still first steps rs last run place a d at_a at_d = run_calls told still first last steps rs run place a d at_a at_d

-- ---- the moments of a run

effects_at-append : {P : Type 0} (told : P → Told) (old new : State P) (place : ℕ) (xs ys : List Step) (rs qs : List Reply) → Run told old xs rs new → effects_at place (xs ++ ys) (rs ++ qs) ≡ effects_at place xs rs ++ effects_at place ys qs
effects_at-append told old new place xs ys rs qs ends = refl
effects_at-append told old new place xs ys rs qs (goes_on {mid = mid} {step = x} {steps = xs'} {reply = r} {replies = rs'} one rest) =
    ap (λ (l : List Effect). effect_at place x r ∷ l) (effects_at-append told mid new place xs' ys rs' qs rest)

-- the effects of a run that is parted at a step
pub parted_effects : {P : Type 0} (told : P → Told) (first now mid last : State P) (steps steps_before : List Step) (rs before : List Reply) (x : Step) (reply : Reply) (parts : Parts told first steps rs last now mid steps_before before x reply)
    → (place : ℕ) → effects_at place steps rs ≡ effects_at place steps_before before ++ effect_at place x reply ∷ effects_at place parts.steps_after parts.after
parted_effects told first now mid last steps steps_before rs before x reply parts place =
    ap (λ (l : List Step). effects_at place l rs) parts.steps_are
    ∙ ap (λ (l : List Reply). effects_at place (steps_before ++ x ∷ parts.steps_after) l) parts.replies_are
    ∙ effects_at-append told first now place steps_before (x ∷ parts.steps_after) before (reply ∷ parts.after) parts.run_before

-- three runs of calls: before a step, in it, and after it
parted : (first now mid last : Told) (v0 : View) (ys : List Item) (c : ℕ) (before after : List Effect) (e : Effect) → Stands now
    → Calls first now before → Calls now mid (e ∷ []) → Calls mid last after → last.device.honest → Fits first v0 ys c
    → AreSound (record { now = now; then = mid; last = last; began = v0; before = ys ++ items_in before; after = (ys ++ items_in before) ++ e.items; all = (ys ++ items_in before) ++ items_in (e ∷ after); covered = covered_by v0 ys c before })
parted first now mid last v0 ys c before after e stands one two three h f =
    let h_mid = three.was_honest h in
    let h_now = two.was_honest h_mid in
    let ys_now = ys ++ items_in before in
    let c_now = covered_by v0 ys c before in
    let at_now = one.each h_now v0 ys c f in
    let at_mid = two.each h_mid v0 ys_now c_now at_now.fits in
    let at_last = three.each h v0 (ys_now ++ items_in (e ∷ [])) (covered_by v0 ys_now c_now (e ∷ [])) at_mid.fits in
    let rest = (calls_both now mid last (e ∷ []) after two three).each h v0 ys_now c_now at_now.fits in
    let step : Leaves now.device mid.device (Sound now.spec v0 (ys_now ++ e.items) c_now) =
    subst (λ (l : List Item). Leaves now.device mid.device (Sound now.spec v0 (ys_now ++ l) c_now)) (append-nil e.items) at_mid.moments in
    record {
      fits = at_now.fits;
      later = step.passes.later;
      end = at_last.moments.passes.later;
      counts = λ image im. rest.moments.passes.keeps now.device.clock image (omega arith) (stands.counts_now h_now now.device.clock image (omega arith) im);
      since = rest.moments;
      inside = λ image left. ⊎_elim (λ was. inr (step.each image was)) (λ arose. inl (arose mid.device.clock (omega arith)))
          (at_last.moments.passes.splits now.device.clock image step.passes.later left);
    }

pub each_moment : {P : Type 0} (told : P → Told) → ((p : P) → Stands (told p)) → (first : State P) (steps : List Step) (rs : List Reply) (last : State P) → EachMoment told first steps rs last
each_moment {P} told stands first steps rs last now mid steps_before before x reply parts place a b c d at_a at_b at_c at_d h v0 ys n f =
    let still : (p : P) → IsStill (told p) = λ p. (stands p).only_now in
    let effects = effects_at place steps_before before in
    let e = effect_at place x reply in
    let after = effects_at place parts.steps_after parts.after in
    let one = run_calls told still first now steps_before before parts.run_before place a b at_a at_b in
    let two = step_calls told still now mid x reply parts.acts place b c at_b at_c in
    let three = run_calls told still mid last parts.steps_after parts.after parts.run_after place c d at_c at_d in
    let sound = parted (told a.port) (told b.port) (told c.port) (told d.port) v0 ys n effects after e (stands b.port) one two three h f in
    let whole : (ys ++ items_in effects) ++ items_in (e ∷ after) ≡ ys ++ items_in (effects_at place steps rs) =
    append_assoc ys (items_in effects) (items_in (e ∷ after))
    ∙ ap (λ (l : List Item). ys ++ l) (sym (items_in-append effects (e ∷ after)) ∙ ap items_in (sym (parted_effects told first now mid last steps steps_before rs before x reply parts place))) in
    let around : List Item → AroundStep = λ l. record { now = told b.port; then = told c.port; last = told d.port; began = v0; before = ys ++ items_in effects; after = (ys ++ items_in effects) ++ e.items; all = l; covered = covered_by v0 ys n effects } in
    subst (λ (l : List Item). AreSound (around l)) whole sound
