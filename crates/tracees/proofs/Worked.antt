-- What the acts of a job have done.
use Rattle.std.proofs.Common.{◌≡◌, ◌≢◌, ℕ, ◌+◌, min, Bool, true, List, [], ◌∷◌, ◌++◌, length, take, slice_get, Option, Some, None, Ok, Err, refl, sym, ◌∙◌, ap, subst, arith, append_assoc, ⊎_elim}
use Rattle.std.proofs.lemmas.Bool.{cases_eq}
use Rattle.std.proofs.lemmas.List.{append-nil, length-take}
use Rattle.entry_codec.specs.Entries.{Entry, drops_in}
use Rattle.entry_codec.specs.Seen.{views}
use Rattle.trace_message.specs.declared.event.Event.{Event}
use Rattle.trace_message.specs.declared.event.Stamp.{Stamp}
use Rattle.trace_port.specs.Port.{Told}
use Rattle.trace_port.specs.declared.fault.PortFault.{PortFault}
use Rattle.trace_terms.specs.Data.{Data}
use Rattle.intake.specs.Emitting.{message_for}
use Rattle.intake.specs.Histories.{History, Begun, Took, carried_of}
use Rattle.intake.specs.Leads.{Leads, begins}
use Rattle.intake.specs.Passed.{HasPassed}
use Rattle.intake.specs.Tracees.{waiting_of, capacity_of, SameSetup}
use Rattle.intake.specs.WaitingLists.{messages_in}
use Rattle.intake.specs.declared.offer.Offer.{Offer}
use Rattle.intake.specs.declared.offer.Offer.TheVariants as offers
use Rattle.intake.specs.declared.tracee.Tracee.{Tracee}
use Rattle.intake.proofs.HistoryLemmas.{carried_and_waiting}
use Rattle.intake.proofs.ListLemmas.{messages_in-append, drops_in-append}
use Rattle.tracees.specs.Books.{totals, added}
use Rattle.tracees.specs.Desks.{DeskState, Seat}
use Rattle.tracees.specs.Effects.{offered_too}
use Rattle.tracees.specs.Emits.{Emits}
use Rattle.tracees.specs.Hands as hand
use Rattle.tracees.specs.Hands.{TakesInOrder, Moves, Names, HandsOver, FlushesFor, moved_by}
use Rattle.tracees.specs.Jobs.{HandsThere, FlushesThere, EmitsThere, Does, emits, hands, flushes, Fails, emit_fails, hand_fails, flush_fails, Acts, begin, go_on, left_after, then_act, then_acts, history_of, entries_of, AreReceipts, flushed_after, HasGrown, Did, entries_in, FailedAt, AreLetThrough}
use Rattle.tracees.specs.declared.book.Totals.{Totals}
use Rattle.tracees.specs.declared.job.Act.{Act}
use Rattle.tracees.specs.declared.job.Act.TheVariants as acts
use Rattle.tracees.specs.declared.job.ActFault.{ActFault}
use Rattle.tracees.specs.declared.receipt.Receipt.{Receipt}
use Rattle.tracees.specs.declared.receipt.HandFault.{HandFault}
use Rattle.tracees.proofs.Carried as carried
use Rattle.tracees.proofs.Carried.{same_setup, setup_both, same_message, adds_taking, emit_passes, hand_takes, flush_for_takes}
use Rattle.tracees.proofs.Counted.{takes_counts}
use Rattle.tracees.proofs.Moved.{length-views}

-- ---- lists of acts and of receipts, in two parts

then_acts-append : (tracee : Tracee) (h : History) (xs ys : List Act) → then_acts tracee h (xs ++ ys) ≡ then_acts tracee (then_acts tracee h xs) ys
then_acts-append tracee h [] ys = refl
then_acts-append tracee h (x ∷ xs) ys = then_acts-append tracee (then_act tracee h x) xs ys

entries_of-append : (rs ss : List Receipt) → entries_of (rs ++ ss) ≡ entries_of rs ++ entries_of ss
entries_of-append [] ss = refl
entries_of-append (r ∷ rs) ss = ap (λ (l : List Entry). views r.entries.items ++ l) (entries_of-append rs ss) ∙ sym (append_assoc (views r.entries.items) (entries_of rs) (entries_of ss))

messages_of_both : (rs ss : List Receipt) → messages_in (entries_of (rs ++ ss)) ≡ messages_in (entries_of rs) + messages_in (entries_of ss)
messages_of_both rs ss = ap (λ (l : List Entry). messages_in l) (entries_of-append rs ss) ∙ messages_in-append (entries_of rs) (entries_of ss)

drops_of_both : (rs ss : List Receipt) → drops_in (entries_of (rs ++ ss)) ≡ drops_in (entries_of rs) + drops_in (entries_of ss)
drops_of_both rs ss = ap (λ (l : List Entry). drops_in l) (entries_of-append rs ss) ∙ drops_in-append (entries_of rs) (entries_of ss)

receipts_both : (d n : ℕ) (xs ys : List Act) (rs ss : List Receipt) → AreReceipts d n xs rs → AreReceipts d n ys ss → AreReceipts d n (xs ++ ys) (rs ++ ss)
receipts_both d n [] ys rs ss p q = subst (λ (l : List Receipt). AreReceipts d n ys (l ++ ss)) (sym p) q
receipts_both d n (acts.Emit event stamp ∷ xs) ys rs ss p q = receipts_both d n xs ys rs ss p q
receipts_both d n (acts.HandOver limit ∷ xs) ys [] ss p q = absurd p
receipts_both d n (acts.HandOver limit ∷ xs) ys (r ∷ rs) ss p q = (p.0, p.1, receipts_both d n xs ys rs ss p.2 q)
receipts_both d n (acts.FlushFor ∷ xs) ys [] ss p q = absurd p
receipts_both d n (acts.FlushFor ∷ xs) ys (r ∷ rs) ss p q = (p.0, p.1, p.2, receipts_both d n xs ys rs ss p.3 q)

held_more : (held : ℕ) (r : Receipt) (rs : List Receipt) → (held + messages_in (views r.entries.items)) + messages_in (entries_of rs) ≡ held + messages_in (entries_of (r ∷ rs))
held_more held r rs = omega (arith, messages_in-append (views r.entries.items) (entries_of rs))

flushed_both : (d n held flushed : ℕ) (xs ys : List Act) (rs ss : List Receipt) → AreReceipts d n xs rs
    → flushed_after held flushed (xs ++ ys) (rs ++ ss) ≡ flushed_after (held + messages_in (entries_of rs)) (flushed_after held flushed xs rs) ys ss
flushed_both d n held flushed [] ys rs ss p =
    let same : held ≡ held + messages_in (entries_of rs) = omega (arith, ap (λ (l : List Receipt). messages_in (entries_of l)) p) in
    ap (λ (l : List Receipt). flushed_after held flushed ys (l ++ ss)) p ∙ ap (λ (k : ℕ). flushed_after k flushed ys ss) same
flushed_both d n held flushed (acts.Emit event stamp ∷ xs) ys rs ss p = flushed_both d n held flushed xs ys rs ss p
flushed_both d n held flushed (acts.HandOver limit ∷ xs) ys [] ss p = absurd p
flushed_both d n held flushed (acts.HandOver limit ∷ xs) ys (r ∷ rs) ss p =
    let then = held + messages_in (views r.entries.items) in
    flushed_both d n then flushed xs ys rs ss p.2 ∙ ap (λ (k : ℕ). flushed_after k (flushed_after then flushed xs rs) ys ss) (held_more held r rs)
flushed_both d n held flushed (acts.FlushFor ∷ xs) ys [] ss p = absurd p
flushed_both d n held flushed (acts.FlushFor ∷ xs) ys (r ∷ rs) ss p =
    let then = held + messages_in (views r.entries.items) in
    flushed_both d n then then xs ys rs ss p.3 ∙ ap (λ (k : ℕ). flushed_after k (flushed_after then then xs rs) ys ss) (held_more held r rs)

-- ---- what a history tells

record ToldSo (was is : Tracee) (h : History) (carried : List Entry) : Type 0 where
  carries : carried ≡ carried_of (capacity_of was) (waiting_of was) h
  waits : waiting_of is ≡ left_after was h

told_so : (was is : Tracee) (h : History) (carried : List Entry) → SameSetup was is → HasPassed (waiting_of was) h carried is → ToldSo was is h carried
told_so was is h carried setup passed =
    let law = carried_and_waiting (capacity_of was) (waiting_of was) h carried (waiting_of is) was.capacity_in_range.0 was.waiting (subst (λ (n : ℕ). Leads n (waiting_of was) h carried (waiting_of is)) setup.capacity passed) in
    record { carries = law.0; waits = law.1 }

-- ---- acts so far

pub record SoFar (was is : Seat) (done : List Act) (given : List Receipt) : Type 0 where
  pub setup : SameSetup was.tracee is.tracee
  pub desk : is.desk ≡ was.desk
  pub passed : HasPassed (waiting_of was.tracee) (history_of was.tracee done) (entries_of given) is.tracee
  pub receipts : AreReceipts was.desk was.tracee.number done given
  pub account : HasGrown was.sums is.sums done given

none_yet : (was : Seat) → SoFar was was [] []
none_yet was = record {
  setup = same_setup was.tracee;
  desk = refl;
  passed = begins;
  receipts = refl;
  account = record { messages = omega arith; drops = omega arith; flushed = refl };
}

-- what one act adds
record Adds (was mid is : Seat) (h : History) (act : Act) (more : List Receipt) : Type 0 where
  setup : SameSetup mid.tracee is.tracee
  desk : is.desk ≡ mid.desk
  passed : (taken : List Entry) → HasPassed (waiting_of was.tracee) h taken mid.tracee → HasPassed (waiting_of was.tracee) (then_act was.tracee h act) (taken ++ entries_of more) is.tracee
  receipts : AreReceipts was.desk was.tracee.number (act ∷ []) more
  account : HasGrown mid.sums is.sums (act ∷ []) more

one_more : (was mid is : Seat) (xs : List Act) (rs : List Receipt) (act : Act) (more : List Receipt) → SoFar was mid xs rs → Adds was mid is (history_of was.tracee xs) act more → SoFar was is (xs ++ act ∷ []) (rs ++ more)
one_more was mid is xs rs act more so_far adds = record {
  setup = setup_both was.tracee mid.tracee is.tracee so_far.setup adds.setup;
  desk = adds.desk ∙ so_far.desk;
  passed = subst (λ (h : History). HasPassed (waiting_of was.tracee) h (entries_of (rs ++ more)) is.tracee) (sym (then_acts-append was.tracee Begun xs (act ∷ [])))
      (subst (λ (l : List Entry). HasPassed (waiting_of was.tracee) (then_act was.tracee (history_of was.tracee xs) act) l is.tracee) (sym (entries_of-append rs more)) (adds.passed (entries_of rs) so_far.passed));
  receipts = receipts_both was.desk was.tracee.number xs (act ∷ []) rs more so_far.receipts adds.receipts;
  account = record {
    messages = omega (arith, adds.account.messages, so_far.account.messages, messages_of_both rs more);
    drops = omega (arith, adds.account.drops, so_far.account.drops, drops_of_both rs more);
    flushed = adds.account.flushed ∙ (λ i. flushed_after (so_far.account.messages i) (so_far.account.flushed i) (act ∷ []) more)
        ∙ sym (flushed_both was.desk was.tracee.number was.sums.messages was.sums.flushed xs (act ∷ []) rs more so_far.receipts);
  };
}

-- ---- an event

emit_on : (old new : Tracee) (event : Event) (stamp : Stamp) (offer : Offer) → Emits old new event stamp (Ok offer) → (before : List Entry) (h : History) (taken : List Entry) → HasPassed before h taken old
    → HasPassed before (offered_too h (message_for old event stamp)) taken new
emit_on old new event stamp offers.Kept e before h taken passed = emit_passes old new event stamp (Ok offers.Kept) e before h taken passed
emit_on old new event stamp offers.Dropped e before h taken passed = emit_passes old new event stamp (Ok offers.Dropped) e before h taken passed
emit_on old new event stamp offers.Unasked e before h taken passed =
    subst (λ (m : Option Data). HasPassed before (offered_too h m) taken new) (sym (e.unasked.0 refl)) (emit_passes old new event stamp (Ok offers.Unasked) e before h taken passed)

emit_adds : (was mid is : Seat) (h : History) (event : Event) (stamp : Stamp) (offer : Offer) → SameSetup was.tracee mid.tracee → EmitsThere event stamp mid is (Ok offer) → Adds was mid is h (acts.Emit event stamp) []
emit_adds was mid is h event stamp offer setup e = record {
  setup = e.emits.setup;
  desk = e.desk;
  passed = λ taken passed.
      subst (λ (l : List Entry). HasPassed (waiting_of was.tracee) (offered_too h (message_for was.tracee event stamp)) l is.tracee) (sym (append-nil taken))
      (subst (λ (m : Option Data). HasPassed (waiting_of was.tracee) (offered_too h m) taken is.tracee) (same_message was.tracee mid.tracee setup event stamp)
      (emit_on mid.tracee is.tracee event stamp offer e.emits (waiting_of was.tracee) h taken passed));
  receipts = refl;
  account = record {
    messages = omega (arith, ap (λ (t : Totals). t.messages) e.sums);
    drops = omega (arith, ap (λ (t : Totals). t.drops) e.sums);
    flushed = ap (λ (t : Totals). t.flushed) e.sums;
  };
}

-- ---- a hand-over and a flush

-- where none was refused all that was offered has moved
all_moved : {P : Type 0} (told : P → Told) (p q : P) (offered moved : List Entry) (fault : Option PortFault) → TakesInOrder told p offered moved fault q → fault ≡ None → moved ≡ offered
all_moved told p q offered moved fault hand.none_left none = refl
all_moved told p q offered moved fault (hand.takes_one {q = mid} {e = e} {es = es} {moved = more} {fault = fault'} accepts rest) none = ap (λ (l : List Entry). e ∷ l) (all_moved told mid q es more fault' rest none)
all_moved told p q offered moved fault (hand.fails_at accepts) none = absurd (cc)
all_moved told p q offered moved fault (hand.stops_at accepts refused) none = absurd (cc)

-- the taking of entries, so many of them as the act takes
taking_on : (was mid is : Seat) (h : History) (count : ℕ) (moved : List Entry) → carried.Takes mid.tracee is.tracee moved → length moved ≡ count → (taken : List Entry) → HasPassed (waiting_of was.tracee) h taken mid.tracee
    → HasPassed (waiting_of was.tracee) (Took h count) (taken ++ (moved ++ [])) is.tracee
taking_on was mid is h count moved takes many taken passed =
    subst (λ (l : List Entry). HasPassed (waiting_of was.tracee) (Took h count) (taken ++ l) is.tracee) (sym (append-nil moved))
    (subst (λ (n : ℕ). HasPassed (waiting_of was.tracee) (Took h n) (taken ++ moved) is.tracee) many (adds_taking mid.tracee is.tracee moved takes.setup takes.rest (waiting_of was.tracee) h taken passed))

messages_alone : (moved : List Entry) → messages_in (moved ++ []) ≡ messages_in moved
messages_alone moved = ap (λ (l : List Entry). messages_in l) (append-nil moved)

drops_alone : (moved : List Entry) → drops_in (moved ++ []) ≡ drops_in moved
drops_alone moved = ap (λ (l : List Entry). drops_in l) (append-nil moved)

-- a hand-over that answered Ok
record HandedAll {P : Type 0} (told : P → Told) (p q : DeskState P) (limit : ℕ) (was is : Seat) (receipt : Receipt) : Type 0 where
  moved : Moves told p q was is (take limit (waiting_of was.tracee)) (views receipt.entries.items) None
  names : Names (told p.port) (told q.port) was receipt

handed_all : {P : Type 0} (told : P → Told) (p q : DeskState P) (limit : ℕ) (was is : Seat) (receipt : Receipt) → HandsOver told p q limit was is (Ok receipt) → HandedAll told p q limit was is receipt
handed_all told p q limit was is receipt (hand.moves same m names) = record { moved = m; names = names }

hand_adds : {P : Type 0} (told : P → Told) (was mid is : Seat) (h : History) (taken : List Entry) (limit : ℕ) (receipt : Receipt) → SameSetup was.tracee mid.tracee → mid.desk ≡ was.desk → waiting_of mid.tracee ≡ left_after was.tracee h
    → HandsThere told limit mid is (Ok receipt) → Adds was mid is h (acts.HandOver limit) (receipt ∷ [])
hand_adds told was mid is h taken limit receipt setup desk waits t =
    let all = handed_all told t.before t.after limit mid is receipt t.hands in
    let moved = views receipt.entries.items in
    let many : length moved ≡ min limit (length (left_after was.tracee h)) =
    ap (λ (l : List Entry). length l) (all_moved told t.before.port t.after.port (take limit (waiting_of mid.tracee)) moved None all.moved.takes refl) ∙ length-take limit (waiting_of mid.tracee) ∙ ap (λ (l : List Entry). min limit (length l)) waits in
    record {
      setup = all.moved.setup;
      desk = all.moved.desk;
      passed = taking_on was mid is h (min limit (length (left_after was.tracee h))) moved (hand_takes told t.before t.after limit mid is (Ok receipt) t.hands) many;
      receipts = (all.names.desk ∙ desk, all.names.tracee ∙ setup.number, refl);
      account = record {
        messages = omega (arith, ap (λ (s : Totals). s.messages) all.moved.account, messages_alone moved);
        drops = omega (arith, ap (λ (s : Totals). s.drops) all.moved.account, drops_alone moved);
        flushed = ap (λ (s : Totals). s.flushed) all.moved.account;
      };
    }

-- a flush that answered Ok
record FlushedAll {P : Type 0} (told : P → Told) (was is : Seat) (receipt : Receipt) : Type 0 where
  all : views receipt.entries.items ≡ waiting_of was.tracee
  desk : is.desk ≡ was.desk
  of_desk : receipt.desk ≡ was.desk
  of_tracee : receipt.tracee ≡ was.tracee.number
  covers : receipt.covered ≡ receipt.first + length receipt.entries.items
  messages : is.sums.messages ≡ was.sums.messages + messages_in (views receipt.entries.items)
  drops : is.sums.drops ≡ was.sums.drops + drops_in (views receipt.entries.items)
  flushed : is.sums.flushed ≡ was.sums.messages + messages_in (views receipt.entries.items)

flushed_all : {P : Type 0} (told : P → Told) (p q : DeskState P) (was is : Seat) (receipt : Receipt) → FlushesFor told p q was is (Ok receipt) → FlushedAll told was is receipt
flushed_all told p q was is receipt (hand.covers {n = n} between mid same f book account) =
    let moved = views receipt.entries.items in
    let counts = takes_counts told p.port between.port (waiting_of was.tracee) moved None f.all.takes in
    record {
      all = all_moved told p.port between.port (waiting_of was.tracee) moved None f.all.takes refl;
      desk = account.desk ∙ f.all.desk;
      of_desk = f.names.desk;
      of_tracee = f.names.tracee;
      covers = omega (arith, f.names.covered, f.flush.covered.covered, counts.total, f.names.first, length-views receipt.entries.items);
      messages = ap (λ (s : Totals). s.messages) account.sums ∙ ap (λ (s : Totals). s.messages) f.all.account;
      drops = ap (λ (s : Totals). s.drops) account.sums ∙ ap (λ (s : Totals). s.drops) f.all.account;
      flushed = ap (λ (s : Totals). s.flushed) account.sums ∙ ap (λ (s : Totals). s.messages) f.all.account;
    }

flush_adds : {P : Type 0} (told : P → Told) (was mid is : Seat) (h : History) (receipt : Receipt) → SameSetup was.tracee mid.tracee → mid.desk ≡ was.desk → waiting_of mid.tracee ≡ left_after was.tracee h
    → FlushesThere told mid is (Ok receipt) → Adds was mid is h acts.FlushFor (receipt ∷ [])
flush_adds told was mid is h receipt setup desk waits t =
    let all = flushed_all told t.before t.after mid is receipt t.flushes in
    let takes = flush_for_takes told t.before t.after mid is (Ok receipt) t.flushes in
    let moved = views receipt.entries.items in
    record {
      setup = takes.setup;
      desk = all.desk;
      passed = taking_on was mid is h (length (left_after was.tracee h)) moved takes (ap (λ (l : List Entry). length l) (all.all ∙ waits));
      receipts = (all.of_desk ∙ desk, all.of_tracee ∙ setup.number, all.covers, refl);
      account = record {
        messages = omega (arith, all.messages, messages_alone moved);
        drops = omega (arith, all.drops, drops_alone moved);
        flushed = all.flushed;
      };
    }

-- ---- all acts

so_waits : (was is : Seat) (xs : List Act) (rs : List Receipt) → SoFar was is xs rs → ToldSo was.tracee is.tracee (history_of was.tracee xs) (entries_of rs)
so_waits was is xs rs so_far = told_so was.tracee is.tracee (history_of was.tracee xs) (entries_of rs) so_far.setup so_far.passed

act_adds : {P : Type 0} (told : P → Told) (was mid is : Seat) (xs : List Act) (rs : List Receipt) (act : Act) (more : List Receipt) → SoFar was mid xs rs → Does told mid is act more → Adds was mid is (history_of was.tracee xs) act more
act_adds told was mid is xs rs act more so_far (emits {event = event} {stamp = stamp} {offer = offer} e) = emit_adds was mid is (history_of was.tracee xs) event stamp offer so_far.setup e
act_adds told was mid is xs rs act more so_far (hands {limit = limit} {receipt = receipt} t) =
    hand_adds told was mid is (history_of was.tracee xs) (entries_of rs) limit receipt so_far.setup so_far.desk (so_waits was mid xs rs so_far).waits t
act_adds told was mid is xs rs act more so_far (flushes {receipt = receipt} t) = flush_adds told was mid is (history_of was.tracee xs) receipt so_far.setup so_far.desk (so_waits was mid xs rs so_far).waits t

pub so_far_of : {P : Type 0} (told : P → Told) (was is : Seat) (xs : List Act) (rs : List Receipt) → Acts told was xs rs is → SoFar was is xs rs
so_far_of told was is xs rs begin = none_yet was
so_far_of told was is xs rs (go_on {acts = before} {receipts = receipts} {more = more} {mid = mid} {act = act} done does) =
    let so_far = so_far_of told was mid before receipts done in
    one_more was mid is before receipts act more so_far (act_adds told was mid is before receipts act more so_far does)

pub did_of : {P : Type 0} (told : P → Told) (was is : Seat) (xs : List Act) (rs : List Receipt) → Acts told was xs rs is → Did told was is xs rs
did_of told was is xs rs acted =
    let so_far = so_far_of told was is xs rs acted in
    let so = so_waits was is xs rs so_far in
    record { acted = acted; carried = so.carries; waits = so.waits; receipts = so_far.receipts; account = so_far.account }

-- ---- an act that failed

-- what a failed act leaves
pub record Left (was is : Seat) (fault : ActFault) : Type 0 where
  pub takes : carried.Takes was.tracee is.tracee (entries_in fault)
  pub desk : is.desk ≡ was.desk
  pub account : is.sums ≡ added was.sums (entries_in fault)

none_added : (sums : Totals) → added sums [] ≡ sums
none_added sums =
    let messages : sums.messages + 0 ≡ sums.messages = omega arith in
    let drops : sums.drops + 0 ≡ sums.drops = omega arith in
    λ i. totals (messages i) (drops i) sums.flushed

unchanged : (was is : Seat) → is ≡ was → is.sums ≡ added was.sums []
unchanged was is same = ap (λ (s : Seat). s.sums) same ∙ sym (none_added was.sums)

hand_left : {P : Type 0} (told : P → Told) (p q : DeskState P) (limit : ℕ) (was is : Seat) (fault : HandFault) → HandsOver told p q limit was is (Err fault) → (is.desk ≡ was.desk) × (is.sums ≡ added was.sums (moved_by (Err fault)))
hand_left told p q limit was is fault (hand.is_refused same m names) = (m.desk, m.account)
hand_left told p q limit was is fault (hand.no_memory same none) = (ap (λ (s : Seat). s.desk) none.seat, unchanged was is none.seat)
hand_left told p q limit was is fault (hand.is_stranger other none) = (ap (λ (s : Seat). s.desk) none.seat, unchanged was is none.seat)

flush_left : {P : Type 0} (told : P → Told) (p q : DeskState P) (was is : Seat) (fault : HandFault) → FlushesFor told p q was is (Err fault) → (is.desk ≡ was.desk) × (is.sums ≡ added was.sums (moved_by (Err fault)))
flush_left told p q was is fault (hand.flush_fails between same f book) = (f.all.desk, f.all.account)
flush_left told p q was is fault (hand.is_refused same m names) = (m.desk, m.account)
flush_left told p q was is fault (hand.no_memory same none) = (ap (λ (s : Seat). s.desk) none.seat, unchanged was is none.seat)
flush_left told p q was is fault (hand.is_stranger other none) = (ap (λ (s : Seat). s.desk) none.seat, unchanged was is none.seat)

pub left_of : {P : Type 0} (told : P → Told) (was is : Seat) (act : Act) (fault : ActFault) → Fails told was is act fault → Left was is fault
left_of told was is act fault (emit_fails e) = record {
  takes = record { setup = e.emits.setup; rest = sym (e.emits.stays refl) };
  desk = e.desk;
  account = e.sums ∙ sym (none_added was.sums);
}
left_of told was is act fault (hand_fails {limit = limit} {fault = why} t) =
    let left = hand_left told t.before t.after limit was is why t.hands in
    record { takes = hand_takes told t.before t.after limit was is (Err why) t.hands; desk = left.0; account = left.1 }
left_of told was is act fault (flush_fails {fault = why} t) =
    let left = flush_left told t.before t.after was is why t.flushes in
    record { takes = flush_for_takes told t.before t.after was is (Err why) t.flushes; desk = left.0; account = left.1 }

pub failed_of : {P : Type 0} (told : P → Told) (was mid is : Seat) (xs : List Act) (place : ℕ) (rs : List Receipt) (act : Act) (fault : ActFault)
    → slice_get xs place ≡ Some act → Acts told was (take place xs) rs mid → Fails told mid is act fault → FailedAt told was is xs rs place fault
failed_of told was mid is xs place rs act fault there acted fails =
    let so_far = so_far_of told was mid (take place xs) rs acted in
    let left = left_of told mid is act fault fails in
    let h = Took (history_of was.tracee (take place xs)) (length (entries_in fault)) in
    let so = told_so was.tracee is.tracee h (entries_of rs ++ entries_in fault) (setup_both was.tracee mid.tracee is.tracee so_far.setup left.takes.setup)
    (adds_taking mid.tracee is.tracee (entries_in fault) left.takes.setup left.takes.rest (waiting_of was.tracee) (history_of was.tracee (take place xs)) (entries_of rs) so_far.passed) in
    record {
      act = act;
      mid = mid;
      there = there;
      before = did_of told was mid (take place xs) rs acted;
      fails = fails;
      carried = so.carries;
      waits = so.waits;
      account = left.account;
    }

-- ---- one act more

pub acts_more : {P : Type 0} (told : P → Told) (was mid is : Seat) (xs : List Act) (place : ℕ) (rs rs' more : List Receipt) (act : Act)
    → take (place + 1) xs ≡ take place xs ++ act ∷ [] → Acts told was (take place xs) rs mid → rs' ≡ rs ++ more → Does told mid is act more → Acts told was (take (place + 1) xs) rs' is
acts_more told was mid is xs place rs rs' more act next acted behind does =
    subst (λ (l : List Act). Acts told was l rs' is) (sym next) (subst (λ (l : List Receipt). Acts told was (take place xs ++ act ∷ []) l is) (sym behind) (go_on acted does))

-- ---- the gate let one act more through

pub through_more : (answers : ℕ → Bool → Type 0) (ends : ℕ → Type 0) (place : ℕ) → AreLetThrough answers ends place → answers place true → ends place → AreLetThrough answers ends (place + 1)
through_more answers ends place before passes ended act within = ⊎_elim
    (λ (e : act ≡ place). subst (λ (n : ℕ). answers n true × ends n) (sym e) (passes, ended))
    (λ (n : act ≢ place). before act (omega arith))
    (cases_eq act place)
