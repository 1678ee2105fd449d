-- A run of steps, step by step.
use Rattle.std.proofs.Common.{◌≡◌, ◌≢◌, ⊎_elim, ℕ, ◌+◌, ◌<◌, ◌≤◌, List, [], ◌∷◌, ◌++◌, length, drop, set, get_or, slice_get, Some, Result, sym, ◌∙◌, ap, subst, append_assoc}
use Rattle.std.proofs.lemmas.List.{append-nil, drop_more, drop_all}
use Rattle.std.proofs.lemmas.Bool.{cases_eq}
use Rattle.std.proofs.lemmas.Option.{same_Some}
use Rattle.trace_port.specs.Port.{Told}
use Rattle.tracees.specs.Desks.{DeskState, Seat}
use Rattle.tracees.specs.Hands.{HandsOver, FlushesFor, moves, is_refused, no_memory, is_stranger, covers, flush_fails}
use Rattle.tracees.specs.Steps.{State, ActsOn, AreNumbered, IsStep, emits, hands_over, flushes_for, flushes, seals, ticks, emit_unknown, hand_unknown, flush_for_unknown, flush_unknown, seal_unknown, tick_unknown, Run, ends, goes_on}
use Rattle.tracees.specs.declared.receipt.Receipt.{Receipt}
use Rattle.tracees.specs.declared.receipt.HandFault.{HandFault}
use Rattle.tracees.specs.declared.step.Step.{Step}
use Rattle.tracees.specs.declared.step.Reply.{Reply}
use Rattle.tracees.proofs.Places.{written, not_written}

-- ---- the run of the loop

-- a run of what is left goes on to one of all
abbrev pub RunsOn : {P : Type 0} → (P → Told) → State P → State P → (steps left : List Step) → List Reply → Type 0
RunsOn {P} told first now steps left replies = (more : List Reply) (last : State P) → Run told now left more last → Run told first steps (replies ++ more) last

pub runs_more : {P : Type 0} (told : P → Told) (first now after : State P) (steps : List Step) (i : ℕ) (x : Step) (replies longer : List Reply) (reply : Reply)
    → i < length steps → RunsOn told first now steps (drop i steps) replies → IsStep told now after (get_or steps i x) reply → longer ≡ replies ++ reply ∷ []
    → RunsOn told first after steps (drop (i + 1) steps) longer
runs_more told first now after steps i x replies longer reply less so_far one is more last run =
    subst (λ (l : List Reply). Run told first steps l last) (sym (ap (λ (l : List Reply). l ++ more) is ∙ append_assoc replies (reply ∷ []) more))
    (so_far (reply ∷ more) last (subst (λ (l : List Step). Run told now l (reply ∷ more) last) (sym (drop_more steps i x less)) (goes_on one run)))

pub runs_all : {P : Type 0} (told : P → Told) (first now : State P) (steps : List Step) (i : ℕ) (replies : List Reply) → length steps ≤ i → RunsOn told first now steps (drop i steps) replies
    → Run told first steps replies now
runs_all told first now steps i replies past so_far =
    subst (λ (l : List Reply). Run told first steps l now) (append-nil replies)
    (so_far [] now (subst (λ (l : List Step). Run told now l [] now) (sym (drop_all i steps past)) ends))

-- ---- the desks keep their numbers

numbered_on : {P : Type 0} (old new : State P) (place : ℕ) (p q : DeskState P) → ActsOn old new place p q → q.number ≡ p.number → AreNumbered old → AreNumbered new
numbered_on {P} old new place p q acts same numbered i r at =
    let now : slice_get (set old.desks place q) i ≡ Some r = ap (λ (l : List (DeskState P)). slice_get l i) (sym acts.others) ∙ at in
    ⊎_elim
    (λ (here : place ≡ i).
    let there : slice_get (set old.desks place q) i ≡ Some q = ap (λ (k : ℕ). slice_get (set old.desks place q) k) (sym here) ∙ written old.desks place p q acts.there in
    ap (λ (d : DeskState P). d.number) (same_Some r q (sym now ∙ there)) ∙ same ∙ numbered place p acts.there ∙ here)
    (λ (isnt : place ≢ i). numbered i r (sym (not_written old.desks place i q isnt) ∙ now))
    (cases_eq place i)

numbered_beside : {P : Type 0} (old new : State P) → new.desks ≡ old.desks → AreNumbered old → AreNumbered new
numbered_beside {P} old new same numbered i p at = numbered i p (ap (λ (l : List (DeskState P)). slice_get l i) (sym same) ∙ at)

numbered_still : {P : Type 0} (old new : State P) → new ≡ old → AreNumbered old → AreNumbered new
numbered_still {P} old new same numbered = numbered_beside old new (ap (λ (s : State P). s.desks) same) numbered

hand_number : {P : Type 0} (told : P → Told) (p q : DeskState P) (limit : ℕ) (was is : Seat) (result : Result Receipt HandFault) → HandsOver told p q limit was is result → q.number ≡ p.number
hand_number told p q limit was is result (moves same m names) = m.number
hand_number told p q limit was is result (is_refused same m names) = m.number
hand_number {P} told p q limit was is result (no_memory same none) = ap (λ (d : DeskState P). d.number) none.place
hand_number {P} told p q limit was is result (is_stranger other none) = ap (λ (d : DeskState P). d.number) none.place

flush_for_number : {P : Type 0} (told : P → Told) (p q : DeskState P) (was is : Seat) (result : Result Receipt HandFault) → FlushesFor told p q was is result → q.number ≡ p.number
flush_for_number told p q was is result (covers between mid same f book account) = book.number ∙ f.all.number
flush_for_number told p q was is result (flush_fails between same f book) = book.number ∙ f.all.number
flush_for_number told p q was is result (is_refused same m names) = m.number
flush_for_number {P} told p q was is result (no_memory same none) = ap (λ (d : DeskState P). d.number) none.place
flush_for_number {P} told p q was is result (is_stranger other none) = ap (λ (d : DeskState P). d.number) none.place

pub step_numbered : {P : Type 0} (told : P → Told) (old new : State P) (x : Step) (reply : Reply) → IsStep told old new x reply → AreNumbered old → AreNumbered new
step_numbered told old new x reply (emits result was is e same) numbered = numbered_beside old new e.desks numbered
step_numbered told old new x reply (hands_over {limit = limit} result was is p q for on number h same) numbered = numbered_on old new was.desk p q on (hand_number told p q limit was is result h) numbered
step_numbered told old new x reply (flushes_for result was is p q for on number f same) numbered = numbered_on old new was.desk p q on (flush_for_number told p q was is result f) numbered
step_numbered told old new x reply (flushes {desk = desk} result p q alone f same) numbered = numbered_on old new desk p q alone.acts alone.book.number numbered
step_numbered told old new x reply (seals {desk = desk} result p q alone f same) numbered = numbered_on old new desk p q alone.acts alone.book.number numbered
step_numbered told old new x reply (ticks {desk = desk} result p q alone f same) numbered = numbered_on old new desk p q alone.acts alone.book.number numbered
step_numbered told old new x reply (emit_unknown none same) numbered = numbered_still old new same numbered
step_numbered told old new x reply (hand_unknown none same) numbered = numbered_still old new same numbered
step_numbered told old new x reply (flush_for_unknown none same) numbered = numbered_still old new same numbered
step_numbered told old new x reply (flush_unknown none same) numbered = numbered_still old new same numbered
step_numbered told old new x reply (seal_unknown none same) numbered = numbered_still old new same numbered
step_numbered told old new x reply (tick_unknown none same) numbered = numbered_still old new same numbered
