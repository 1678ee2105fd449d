-- One entry on its way from a tracee into a port, and then several.
use Rattle.std.proofs.Common.{◌≡◌, ℕ, suc, ◌+◌, ◌-◌, ◌<◌, ◌≤◌, Option, Some, None, List, [], ◌∷◌, ◌++◌, length, take, Result, Ok, Err, refl, sym, ◌∙◌, ap, subst, arith, append_assoc, length-append, slice_get, take_all}
use Rattle.std.proofs.lemmas.List.{append-nil, take_at}
use Rattle.std.proofs.Math.Seq.{take-append-add}
use Rattle.std.specs.Option.{option_map}
use Rattle.entry_codec.specs.Entries.{Entry, drops_in, lost_by}
use Rattle.entry_codec.specs.Seen.{views}
use Rattle.entry_codec.specs.declared.model.Entry.{Entry as Held}
use Rattle.intake.specs.Fronts.{front_view}
use Rattle.intake.specs.WaitingLists.{messages_in}
use Rattle.intake.specs.Tracees.{waiting_of, CountsGrow, SameSetup}
use Rattle.intake.specs.declared.front.Front.{Front}
use Rattle.intake.specs.declared.tracee.Tracee.{Tracee}
use Rattle.trace_port.specs.Port.{Told}
use Rattle.trace_port.specs.PortCalls.{Accepts}
use Rattle.trace_port.specs.declared.fault.PortFault.{PortFault}
use Rattle.trace_port.specs.declared.fault.PortFault.TheVariants as faults
use Rattle.intake.proofs.ListLemmas.{messages_in-append, drops_in-append}
use Rattle.intake.proofs.TakenLemmas.{same_twice}
use Rattle.tracees.specs.Hands.{TakesInOrder, none_left, takes_one, fails_at, stops_at}
use Rattle.tracees.specs.Moving.{Offers, HasMoved, HasStayed, MovesOne, MovesNone}

-- ---- the entry at the front

pub nothing_waits : (entries : List Entry) (front : Option Front) → option_map front_view front ≡ slice_get entries 0 → front ≡ None → entries ≡ []
nothing_waits [] front is none = refl
nothing_waits (e ∷ entries) front is none = (let bad : None ≡ Some e = sym (ap (λ (o : Option Front). option_map front_view o) none) ∙ is in absurd (cc))

pub waits_first : (entries : List Entry) (front : Option Front) (f : Front) → option_map front_view front ≡ slice_get entries 0 → front ≡ Some f → (more : List Entry) × (entries ≡ front_view f ∷ more)
waits_first [] front f is some = (let bad : Some (front_view f) ≡ None = sym (ap (λ (o : Option Front). option_map front_view o) some) ∙ is in absurd (cc))
waits_first (e ∷ entries) front f is some =
    let same : Some (front_view f) ≡ Some e = sym (ap (λ (o : Option Front). option_map front_view o) some) ∙ is in
    (entries, let this : e ≡ front_view f = cc in ap (λ (x : Entry). x ∷ entries) this)

-- the entry at the front is offered
pub offers_first : (old new : Told) (tracee : Tracee) (front : Option Front) (f : Front) (e : Entry) (r : Result ℕ PortFault) → option_map front_view front ≡ slice_get (waiting_of tracee) 0 → front ≡ Some f → front_view f ≡ e
    → Accepts old new e r → (x : Entry) × Offers old new tracee x r
offers_first old new tracee front f e r is some this accepts =
    let first = waits_first (waiting_of tracee) front f is some in
    (e, record { behind = first.0; front = first.1 ∙ ap (λ (x : Entry). x ∷ first.0) this; accepts = accepts })

-- ---- entries one after another

pub length-views : (held : List Held) → length (views held) ≡ length held
length-views [] = refl
length-views (x ∷ held) = omega (arith, length-views held)

-- what the port takes from here on, it takes after these
abbrev pub TakesOn : {P : Type 0} → (P → Told) → P → P → List Entry → Type 0
TakesOn {P} told first now moved = (es ms : List Entry) (fault : Option PortFault) (q : P) → TakesInOrder told now es ms fault q → TakesInOrder told first (moved ++ es) (moved ++ ms) fault q

-- so far, these have moved
pub record MovedSoFar {P : Type 0} (told : P → Told) (first now : P) (was is : Tracee) (moved : List Entry) : Type 0 where
  pub takes : TakesOn told first now moved
  pub rest : waiting_of was ≡ moved ++ waiting_of is
  pub counts : CountsGrow 0 (messages_in moved) (drops_in moved) was is
  pub setup : SameSetup was is

pub none_yet : {P : Type 0} (told : P → Told) (p : P) (tracee : Tracee) (held : List Held) → held ≡ [] → MovedSoFar told p p tracee tracee (views held)
none_yet {P} told p tracee held none =
    let nothing : views held ≡ [] = ap (λ (l : List Held). views l) none in
    let so_far : MovedSoFar told p p tracee tracee [] = record {
      takes = λ es ms fault q t. t;
      rest = refl;
      counts = record { more_offered = omega arith; more_handed = omega arith; more_lost = omega arith };
      setup = same_setup tracee;
    } in
    subst (λ (l : List Entry). MovedSoFar told p p tracee tracee l) (sym nothing) so_far
  where
    same_setup : (tracee : Tracee) → SameSetup tracee tracee
    same_setup tracee = record { number = refl; pid = refl; flags = refl; capacity = refl; drop_limit = refl }

counts_both : (handed lost more_handed more_lost : ℕ) (old mid new : Tracee) → CountsGrow 0 handed lost old mid → CountsGrow 0 more_handed more_lost mid new → CountsGrow 0 (handed + more_handed) (lost + more_lost) old new
counts_both handed lost more_handed more_lost old mid new one two = record {
  more_offered = omega (arith, one.more_offered, two.more_offered);
  more_handed = omega (arith, one.more_handed, two.more_handed);
  more_lost = omega (arith, one.more_lost, two.more_lost);
}

-- the counts with one entry more
counts_more : (was mid is : Tracee) (moved moved' : List Entry) (e : Entry) → moved' ≡ moved ++ e ∷ [] → CountsGrow 0 (messages_in moved) (drops_in moved) was mid → CountsGrow 0 (messages_in (e ∷ [])) (lost_by e) mid is
    → CountsGrow 0 (messages_in moved') (drops_in moved') was is
counts_more was mid is moved moved' e behind one two =
    let messages : messages_in moved + messages_in (e ∷ []) ≡ messages_in moved' = sym (ap (λ (l : List Entry). messages_in l) behind ∙ messages_in-append moved (e ∷ [])) in
    let drops : drops_in moved + lost_by e ≡ drops_in moved' = omega (arith, ap (λ (l : List Entry). drops_in l) behind, drops_in-append moved (e ∷ [])) in
    subst (λ (n : ℕ). CountsGrow 0 n (drops_in moved') was is) messages
    (subst (λ (n : ℕ). CountsGrow 0 (messages_in moved + messages_in (e ∷ [])) n was is) drops
    (counts_both (messages_in moved) (drops_in moved) (messages_in (e ∷ [])) (lost_by e) was mid is one two))

rest_more : (whole mid new moved moved' : List Entry) (e : Entry) → whole ≡ moved ++ mid → mid ≡ e ∷ new → moved' ≡ moved ++ e ∷ [] → whole ≡ moved' ++ new
rest_more whole mid new moved moved' e lists front behind =
    lists ∙ ap (λ (l : List Entry). moved ++ l) front ∙ sym (ap (λ (l : List Entry). l ++ new) behind ∙ append_assoc moved (e ∷ []) new)

moved_on : {P : Type 0} (told : P → Told) (first now after : P) (was mid is : Tracee) (moved moved' : List Entry) (e : Entry) → MovedSoFar told first now was mid moved → HasMoved e mid is moved moved' → SameSetup mid is → TakesOn told first after moved'
    → MovedSoFar told first after was is moved'
moved_on told first now after was mid is moved moved' e so_far has setup takes = record {
  takes = takes;
  rest = rest_more (waiting_of was) (waiting_of mid) (waiting_of is) moved moved' e so_far.rest has.rest has.behind;
  counts = counts_more was mid is moved moved' e has.behind so_far.counts has.counts;
  setup = same_twice was mid is so_far.setup setup;
}

-- the port took one more
pub one_more : {P : Type 0} (told : P → Told) (first now after : P) (was mid is : Tracee) (moved moved' : List Entry) (n : ℕ)
    → MovedSoFar told first now was mid moved → MovesOne (told now) (told after) mid is moved moved' (Ok n) → MovedSoFar told first after was is moved'
one_more told first now after was mid is moved moved' n so_far m =
    let e = m.entry in
    let shift : (xs : List Entry) → moved' ++ xs ≡ moved ++ e ∷ xs = λ xs. ap (λ (l : List Entry). l ++ xs) m.passed.behind ∙ append_assoc moved (e ∷ []) xs in
    moved_on told first now after was mid is moved moved' e so_far m.passed m.setup
    (λ es ms fault q t.
    subst (λ (l : List Entry). TakesInOrder told first l (moved' ++ ms) fault q) (sym (shift es))
    (subst (λ (l : List Entry). TakesInOrder told first (moved ++ e ∷ es) l fault q) (sym (shift ms)) (so_far.takes (e ∷ es) (e ∷ ms) fault q (takes_one m.offers.accepts t))))

pub count_more : (old new : Told) (was is : Tracee) (held held' : List Held) (n : ℕ) → MovesOne old new was is (views held) (views held') (Ok n) → length held' ≡ length held + 1
count_more old new was is held held' n m =
    omega (arith, length-views held, length-views held', ap (λ (l : List Entry). length l) m.passed.behind, length-append (views held) (m.entry ∷ []))

-- at most so many entries were to be moved, and these have: what was offered, what is left, and the counts
pub record MovesSome {P : Type 0} (told : P → Told) (old new : P) (was is : Tracee) (most : ℕ) (moved : List Entry) (fault : Option PortFault) : Type 0 where
  pub takes : TakesInOrder told old (take most (waiting_of was)) moved fault new
  pub rest : waiting_of was ≡ moved ++ waiting_of is
  pub counts : CountsGrow 0 (messages_in moved) (drops_in moved) was is
  pub setup : SameSetup was is

all_taken : {P : Type 0} (told : P → Told) (first now : P) (was is : Tracee) (most : ℕ) (moved : List Entry) → MovedSoFar told first now was is moved → take most (waiting_of was) ≡ moved → MovesSome told first now was is most moved None
all_taken told first now was is most moved so_far offered = record {
  takes = subst (λ (l : List Entry). TakesInOrder told first l moved None now) (append-nil moved ∙ sym offered)
      (subst (λ (l : List Entry). TakesInOrder told first (moved ++ []) l None now) (append-nil moved) (so_far.takes [] [] None now none_left));
  rest = so_far.rest;
  counts = so_far.counts;
  setup = so_far.setup;
}

-- all that was to be moved has moved
pub most_moved : {P : Type 0} (told : P → Told) (first now : P) (was is : Tracee) (most : ℕ) (held : List Held) → MovedSoFar told first now was is (views held) → length held ≡ most → MovesSome told first now was is most (views held) None
most_moved told first now was is most held so_far all =
    all_taken told first now was is most (views held) so_far (ap (λ (l : List Entry). take most l) so_far.rest ∙ take_at (views held) (waiting_of is) most (length-views held ∙ all))

-- ---- where the last entry stayed

rest_stays : (whole mid new moved moved' : List Entry) → whole ≡ moved ++ mid → new ≡ mid → moved' ≡ moved → whole ≡ moved' ++ new
rest_stays whole mid new moved moved' lists rest same = lists ∙ ap (λ (l : List Entry). moved ++ l) (sym rest) ∙ ap (λ (l : List Entry). l ++ new) (sym same)

counts_stay : (was mid is : Tracee) (moved moved' : List Entry) → moved' ≡ moved → CountsGrow 0 (messages_in moved) (drops_in moved) was mid → CountsGrow 0 0 0 mid is → CountsGrow 0 (messages_in moved') (drops_in moved') was is
counts_stay was mid is moved moved' same one two = record {
  more_offered = omega (arith, one.more_offered, two.more_offered);
  more_handed = omega (arith, one.more_handed, two.more_handed, ap (λ (l : List Entry). messages_in l) same);
  more_lost = omega (arith, one.more_lost, two.more_lost, ap (λ (l : List Entry). drops_in l) same);
}

-- nothing waits any more
pub none_wait : {P : Type 0} (told : P → Told) (first now after : P) (was mid is : Tracee) (most : ℕ) (held held' : List Held) → MovedSoFar told first now was mid (views held) → length held ≤ most → MovesNone now after mid is (views held) (views held')
    → MovesSome told first after was is most (views held') None
none_wait {P} told first now after was mid is most held held' so_far few none =
    let moved = views held in
    let all : waiting_of was ≡ moved = so_far.rest ∙ ap (λ (l : List Entry). moved ++ l) none.nothing ∙ append-nil moved in
    let offered : take most (waiting_of was) ≡ moved = ap (λ (l : List Entry). take most l) all ∙ take_all most moved (omega (arith, length-views held, few)) in
    let done = all_taken told first now was mid most moved so_far offered in
    record {
      takes = subst (λ (p : P). TakesInOrder told first (take most (waiting_of was)) (views held') None p) (sym none.port)
          (subst (λ (l : List Entry). TakesInOrder told first (take most (waiting_of was)) l None now) (sym none.stayed.same) done.takes);
      rest = rest_stays (waiting_of was) (waiting_of mid) (waiting_of is) moved (views held') so_far.rest none.stayed.rest none.stayed.same;
      counts = counts_stay was mid is moved (views held') none.stayed.same so_far.counts none.stayed.counts;
      setup = same_twice was mid is so_far.setup none.setup;
    }

-- ---- where the port refused one

-- what is offered from the front, where so much has moved
offered : (most : ℕ) (whole waiting moved : List Entry) (e : Entry) (behind : List Entry) → whole ≡ moved ++ waiting → waiting ≡ e ∷ behind → length moved < most
    → take most whole ≡ moved ++ e ∷ take (most - (length moved + 1)) behind
offered most whole waiting moved e behind lists front less =
    let k : ℕ = most - (length moved + 1) in
    let is : most ≡ length moved + suc k = omega (arith, less) in
    ap (λ (n : ℕ). take n whole) is ∙ ap (λ (l : List Entry). take (length moved + suc k) l) (lists ∙ ap (λ (l : List Entry). moved ++ l) front) ∙ take-append-add moved (e ∷ behind) (suc k)

-- the entry was refused, and stays
refused_there : {P : Type 0} (told : P → Told) (first now after : P) (was mid is : Tracee) (most : ℕ) (moved moved' behind : List Entry) (e : Entry) (fault : PortFault)
    → MovedSoFar told first now was mid moved → length moved < most → waiting_of mid ≡ e ∷ behind → HasStayed mid is moved moved' → SameSetup mid is
    → ((es : List Entry) → TakesInOrder told now (e ∷ es) [] (Some fault) after) → MovesSome told first after was is most moved' (Some fault)
refused_there told first now after was mid is most moved moved' behind e fault so_far less front stayed setup stop =
    let rest = take (most - (length moved + 1)) behind in
    record {
      takes = subst (λ (l : List Entry). TakesInOrder told first l moved' (Some fault) after) (sym (offered most (waiting_of was) (waiting_of mid) moved e behind so_far.rest front less))
          (subst (λ (l : List Entry). TakesInOrder told first (moved ++ e ∷ rest) l (Some fault) after) (append-nil moved ∙ sym stayed.same) (so_far.takes (e ∷ rest) [] (Some fault) after (stop rest)));
      rest = rest_stays (waiting_of was) (waiting_of mid) (waiting_of is) moved moved' so_far.rest stayed.rest stayed.same;
      counts = counts_stay was mid is moved moved' stayed.same so_far.counts stayed.counts;
      setup = same_twice was mid is so_far.setup setup;
    }

-- the device failed to keep it, and it has moved
failed_there : {P : Type 0} (told : P → Told) (first now after : P) (was mid is : Tracee) (most : ℕ) (moved moved' : List Entry)
    → MovedSoFar told first now was mid moved → length moved < most → MovesOne (told now) (told after) mid is moved moved' (Err faults.Device) → MovesSome told first after was is most moved' (Some faults.Device)
failed_there told first now after was mid is most moved moved' so_far less m =
    let e = m.entry in
    let rest = take (most - (length moved + 1)) m.offers.behind in
    record {
      takes = subst (λ (l : List Entry). TakesInOrder told first l moved' (Some faults.Device) after) (sym (offered most (waiting_of was) (waiting_of mid) moved e m.offers.behind so_far.rest m.offers.front less))
          (subst (λ (l : List Entry). TakesInOrder told first (moved ++ e ∷ rest) l (Some faults.Device) after) (sym m.passed.behind) (so_far.takes (e ∷ rest) (e ∷ []) (Some faults.Device) after (fails_at m.offers.accepts)));
      rest = rest_more (waiting_of was) (waiting_of mid) (waiting_of is) moved moved' e so_far.rest m.passed.rest m.passed.behind;
      counts = counts_more was mid is moved moved' e m.passed.behind so_far.counts m.passed.counts;
      setup = same_twice was mid is so_far.setup m.setup;
    }

-- the port refused the next entry
pub one_refused : {P : Type 0} (told : P → Told) (first now after : P) (was mid is : Tracee) (most : ℕ) (held held' : List Held) (fault : PortFault)
    → MovedSoFar told first now was mid (views held) → length held < most → MovesOne (told now) (told after) mid is (views held) (views held') (Err fault)
    → MovesSome told first after was is most (views held') (Some fault)
one_refused told first now after was mid is most held held' faults.Device so_far less m =
    failed_there told first now after was mid is most (views held) (views held') so_far (omega (arith, length-views held, less)) m
one_refused told first now after was mid is most held held' faults.Broken so_far less m =
    refused_there told first now after was mid is most (views held) (views held') m.offers.behind m.entry faults.Broken so_far (omega (arith, length-views held, less)) m.offers.front m.passed m.setup (λ es. stops_at m.offers.accepts tt)
one_refused told first now after was mid is most held held' faults.Sealed so_far less m =
    refused_there told first now after was mid is most (views held) (views held') m.offers.behind m.entry faults.Sealed so_far (omega (arith, length-views held, less)) m.offers.front m.passed m.setup (λ es. stops_at m.offers.accepts tt)
one_refused told first now after was mid is most held held' faults.CountFull so_far less m =
    refused_there told first now after was mid is most (views held) (views held') m.offers.behind m.entry faults.CountFull so_far (omega (arith, length-views held, less)) m.offers.front m.passed m.setup (λ es. stops_at m.offers.accepts tt)
one_refused told first now after was mid is most held held' faults.FileFull so_far less m =
    refused_there told first now after was mid is most (views held) (views held') m.offers.behind m.entry faults.FileFull so_far (omega (arith, length-views held, less)) m.offers.front m.passed m.setup (λ es. stops_at m.offers.accepts tt)
