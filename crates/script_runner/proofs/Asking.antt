-- What the port that is held does in a line.
use Rattle.std.proofs.Common.{◌≡◌, ℕ, ◌+◌, List, [], ◌∷◌, ◌++◌, None, Result, refl, sym, ◌∙◌, ap, subst}
use Rattle.entry_codec.specs.Seen.{view}
use Rattle.trace_message.specs.declared.event.Event.{Event}
use Rattle.trace_message.specs.declared.event.Flags.{Flags}
use Rattle.trace_message.specs.declared.event.Stamp.{Stamp}
use Rattle.trace_port.specs.Port.{Told}
use Rattle.tracees.specs.Desks.{DeskState, Seat, SameBook}
use Rattle.intake.specs.declared.fault.EmitFault.{EmitFault}
use Rattle.intake.specs.declared.offer.Offer.{Offer}
use Rattle.intake.specs.declared.tracee.Tracee.{Tracee}
use Rattle.tracees.specs.Books.{no_totals}
use Rattle.trace_port.specs.Effects.{Effect, no_effect, Calls}
use Rattle.tracees.specs.Emits.{Emits}
use Rattle.trace_port.proofs.Composed.{IsStill, no_effect_call, accept_calls, flush_calls, seal_calls, tick_calls, abandon_calls}
use Rattle.tracees.proofs.Answered.{hands_calls, flushes_for_calls}
use Rattle.script_lines.specs.declared.line.Line.{Line}
use Rattle.script_runner.specs.declared.answer.Answer.{Answer}
use Rattle.script_runner.specs.declared.answer.Answer.TheVariants as answers
use Rattle.script_lines.specs.declared.desk_line.DeskLine.{DeskLine}
use Rattle.script_lines.specs.declared.desk_line.DeskLine.TheVariants as desk_lines
use Rattle.script_lines.specs.declared.desk_line.TraceeLine.{TraceeLine}
use Rattle.script_lines.specs.declared.desk_line.TraceeLine.TheVariants.{Emit}
use Rattle.script_runner.specs.declared.reply.Leave.{Leave}
use Rattle.script_runner.specs.declared.reply.Reply.{Reply}
use Rattle.script_runner.specs.declared.reply.Reply.TheVariants.{Told as Answered, Left}
use Rattle.script_runner.specs.Answers.{emit_answer}
use Rattle.script_runner.specs.Sides.{DeskSide, Held, Alone, AtDesk, port_of, with_port, place_by}
use Rattle.script_runner.specs.DeskLines.{IsAskedFor, emits, hands_over, flushes_for, counts, IsNew, IsBadSpec, IsAskedAtDesk, stamps, times, attaches, not_attached, is_there, asks_for, is_missing}
use Rattle.script_runner.specs.Asked.{IsAsked, puts, flushes, seals, ticks, abandons, crashes, closes, comes_to_desk, acts_there, out_of_order}

-- a line for a tracee
for_calls : {P : Type 0} (told : P → Told) → ((p : P) → IsStill (told p)) → (old new : DeskState P) (moment : Stamp) (was is : Seat) (line : TraceeLine) (answer : Answer) (did : Effect)
    → IsAskedFor told old moment was new is line answer did → Calls (told old.port) (told new.port) (did ∷ [])
for_calls told still old new moment was is line answer did (emits result e) = no_effect_call (told old.port) (still old.port)
for_calls told still old new moment was is line answer did (hands_over {limit = limit} result h) = hands_calls told still old new limit was is result h
for_calls told still old new moment was is line answer did (flushes_for result f) = flushes_for_calls told still old new was is result f
for_calls told still old new moment was is line answer did counts = no_effect_call (told old.port) (still old.port)

-- a line for a desk
desk_calls : {P : Type 0} (told : P → Told) → ((p : P) → IsStill (told p)) → (old new : DeskSide P) (line : DeskLine) (answer : Answer) (did : Effect) → IsAskedAtDesk told old new line answer did
    → Calls (told old.desk.port) (told new.desk.port) (did ∷ [])
desk_calls told still old new line answer did stamps = no_effect_call (told old.desk.port) (still old.desk.port)
desk_calls told still old new line answer did times = no_effect_call (told old.desk.port) (still old.desk.port)
desk_calls told still old new line answer did (attaches free fits made) = no_effect_call (told old.desk.port) (still old.desk.port)
desk_calls told still old new line answer did (not_attached free due) = no_effect_call (told old.desk.port) (still old.desk.port)
desk_calls told still old new line answer did (is_there taken) = no_effect_call (told old.desk.port) (still old.desk.port)
desk_calls told still old new line answer did (asks_for {line = inner} {desk = desk} {was = was} {is = is} at there step) = for_calls told still old.desk desk old.moment was is inner answer did step
desk_calls told still old new line answer did (is_missing free) = no_effect_call (told old.desk.port) (still old.desk.port)

pub port_is : {P : Type 0} (old : Held P) (q : P) → port_of (with_port old q) ≡ q
port_is (Alone p) q = refl
port_is (AtDesk side) q = refl

-- of a port, alone or in a desk
on_port : {P : Type 0} (told : P → Told) (old : Held P) (q : P) (effects : List Effect) → Calls (told (port_of old)) (told q) effects → Calls (told (port_of old)) (told (port_of (with_port old q))) effects
on_port {P} told old q effects calls = subst (λ (p : P). Calls (told (port_of old)) (told p) effects) (sym (port_is old q)) calls

-- a line
pub asked_calls : {P : Type 0} (told : P → Told) → ((p : P) → IsStill (told p)) → (old new : Held P) (line : Line) (reply : Reply) (did : Effect) → IsAsked told old new line reply did → Calls (told (port_of old)) (told (port_of new)) (did ∷ [])
asked_calls told still old new line reply did (puts {p = p} {q = q} {entry = entry} result a) = accept_calls (told p) (told q) (view entry) result a
asked_calls told still old new line reply did (flushes {q = q} result a) = on_port told old q (did ∷ []) (flush_calls (told (port_of old)) (told q) result a)
asked_calls told still old new line reply did (seals {q = q} result a) = on_port told old q (did ∷ []) (seal_calls (told (port_of old)) (told q) result a)
asked_calls told still old new line reply did (ticks {q = q} {now = now} result a) = on_port told old q (did ∷ []) (tick_calls (told (port_of old)) (told q) now result a)
asked_calls told still old new line reply did (abandons {q = q} a) = on_port told old q (did ∷ []) (abandon_calls (told (port_of old)) (told q) a)
asked_calls told still old new line reply did (crashes {q = q} a) = on_port told old q (did ∷ []) (abandon_calls (told (port_of old)) (told q) a)
asked_calls told still old new line reply did closes = no_effect_call (told (port_of old)) (still (port_of old))
asked_calls told still old new line reply did (comes_to_desk {p = p}) = no_effect_call (told p) (still p)
asked_calls told still old new line reply did (acts_there {old = here} {new = then} {line = inner} {answer = answer} step) = desk_calls told still here then inner answer did step
asked_calls told still old new line reply did (out_of_order other) = no_effect_call (told (port_of old)) (still (port_of old))

-- ---- a line with its answer, as the code has them

pub answered : {P : Type 0} (told : P → Told) (old new : Held P) (line said : Line) (answer meant : Answer) (did : Effect) → line ≡ said → answer ≡ meant → IsAsked told old new said (Answered meant) did → (e : Effect) × IsAsked told old new line (Answered answer) e
answered told old new line said answer meant did is same step =
    (did, subst (λ (l : Line). IsAsked told old new l (Answered answer) did) (sym is) (subst (λ (a : Answer). IsAsked told old new said (Answered a) did) (sym same) step))

pub left : {P : Type 0} (told : P → Told) (old new : Held P) (line said : Line) (leave : Leave) (did : Effect) → line ≡ said → IsAsked told old new said (Left leave) did → (e : Effect) × IsAsked told old new line (Left leave) e
left told old new line said leave did is step = (did, subst (λ (l : Line). IsAsked told old new l (Left leave) did) (sym is) step)

pub answered_there : {P : Type 0} (told : P → Told) (old new : DeskSide P) (line said : DeskLine) (answer meant : Answer) (did : Effect) → line ≡ said → answer ≡ meant → IsAskedAtDesk told old new said meant did → (e : Effect) × IsAskedAtDesk told old new line answer e
answered_there told old new line said answer meant did is same step =
    (did, subst (λ (l : DeskLine). IsAskedAtDesk told old new l answer did) (sym is) (subst (λ (a : Answer). IsAskedAtDesk told old new said a did) (sym same) step))

pub answered_for : {P : Type 0} (told : P → Told) (old new : DeskState P) (moment : Stamp) (was is : Seat) (line said : TraceeLine) (answer meant : Answer) (did : Effect) → line ≡ said → answer ≡ meant → IsAskedFor told old moment was new is said meant did
    → (e : Effect) × IsAskedFor told old moment was new is line answer e
answered_for told old new moment was is line said answer meant did same_line same step =
    (did, subst (λ (l : TraceeLine). IsAskedFor told old moment was new is l answer did) (sym same_line) (subst (λ (a : Answer). IsAskedFor told old moment was new is said a did) (sym same) step))

-- an event changes nothing but the tracee
same_seat : (was is : Seat) → is.desk ≡ was.desk → is.sums ≡ was.sums → (let then : Seat = record was { tracee = is.tracee } in then ≡ is)
same_seat was is desk sums =
    ap (λ d. let seat : Seat = record { desk = d; tracee = is.tracee; sums = was.sums } in seat) (sym desk)
    ∙ ap (λ s. let seat : Seat = record { desk = is.desk; tracee = is.tracee; sums = s } in seat) (sym sums)

pub emitted : {P : Type 0} (told : P → Told) (desk : DeskState P) (moment : Stamp) (was is : Seat) (event : Event) (result : Result Offer EmitFault) → is.desk ≡ was.desk → is.sums ≡ was.sums → Emits was.tracee is.tracee event moment result
    → IsAskedFor told desk moment was desk is (Emit event) (emit_answer result) no_effect
emitted told desk moment was is event result same sums e = subst (λ (seat : Seat). IsAskedFor told desk moment was desk seat (Emit event) (emit_answer result) no_effect) (same_seat was is same sums) (emits {tracee = is.tracee} result e)

-- ---- a desk whose book stays

same_place : {P : Type 0} (old new : DeskState P) → SameBook old new → (let then : DeskState P = record old { port = new.port } in then ≡ new)
same_place {P} old new book =
    ap (λ n. let place : DeskState P = record { number = n; port = new.port; counted = old.counted; attached = old.attached } in place) (sym book.number)
    ∙ ap (λ t. let place : DeskState P = record { number = new.number; port = new.port; counted = t; attached = old.attached } in place) (sym book.counted)
    ∙ ap (λ n. let place : DeskState P = record { number = new.number; port = new.port; counted = new.counted; attached = n } in place) (sym book.attached)

-- a call of the port in a desk
pub in_desk : {P : Type 0} (told : P → Told) (old new : DeskState P) (moment : Stamp) (seats : List Seat) (line : Line) (reply : Reply) (did : Effect) → SameBook old new
    → (let here : DeskSide P = record { desk = old; moment = moment; seats = seats } in IsAsked told (AtDesk here) (with_port (AtDesk here) new.port) line reply did)
    → (let here : DeskSide P = record { desk = old; moment = moment; seats = seats } in let then : DeskSide P = record { desk = new; moment = moment; seats = seats } in IsAsked told (AtDesk here) (AtDesk then) line reply did)
in_desk {P} told old new moment seats line reply did book step =
    let here : DeskSide P = record { desk = old; moment = moment; seats = seats } in
    subst (λ (place : DeskState P). let then : DeskSide P = record { desk = place; moment = moment; seats = seats } in IsAsked told (AtDesk here) (AtDesk then) line reply did) (same_place old new book) step

-- ---- lines for a desk

-- the moment and the seats as they stand
pub as_they_stand : {P : Type 0} (told : P → Told) (old : DeskSide P) (desk : DeskState P) (moment now : Stamp) (seats sit : List Seat) (line : DeskLine) (answer : Answer) (did : Effect) → now ≡ moment → sit ≡ seats
    → (let new : DeskSide P = record { desk = desk; moment = moment; seats = seats } in IsAskedAtDesk told old new line answer did)
    → (let new : DeskSide P = record { desk = desk; moment = now; seats = sit } in IsAskedAtDesk told old new line answer did)
as_they_stand {P} told old desk moment now seats sit line answer did is sits step =
    subst (λ (m : Stamp). let new : DeskSide P = record { desk = desk; moment = m; seats = sit } in IsAskedAtDesk told old new line answer did) (sym is)
    (subst (λ (s : List Seat). let new : DeskSide P = record { desk = desk; moment = moment; seats = s } in IsAskedAtDesk told old new line answer did) (sym sits) step)

-- a new tracee
pub attached_there : {P : Type 0} (told : P → Told) (old : DeskSide P) (desk : DeskState P) (seats : List Seat) (seat : Seat) (n capacity drop_limit : ℕ) (flags : Flags) (tracee : Tracee)
    → desk.number ≡ old.desk.number → desk.port ≡ old.desk.port → desk.counted ≡ old.desk.counted → desk.attached ≡ old.desk.attached + 1 → seat.desk ≡ old.desk.number → seat.tracee ≡ tracee → seat.sums ≡ no_totals → seats ≡ old.seats ++ seat ∷ []
    → place_by n old.seats ≡ None → (IsBadSpec capacity drop_limit → ⊥) → IsNew n capacity drop_limit flags tracee
    → (let new : DeskSide P = record { desk = desk; moment = old.moment; seats = seats } in IsAskedAtDesk told old new (desk_lines.Tracee n capacity drop_limit flags) answers.Done no_effect)
attached_there {P} told old desk seats seat n capacity drop_limit flags tracee number port counted attached at is sums sit free fits made =
    let place_is : (let p : DeskState P = record old.desk { attached = old.desk.attached + 1 } in p ≡ desk) =
    ap (λ x. let p : DeskState P = record { number = x; port = old.desk.port; counted = old.desk.counted; attached = old.desk.attached + 1 } in p) (sym number)
    ∙ ap (λ x. let p : DeskState P = record { number = desk.number; port = x; counted = old.desk.counted; attached = old.desk.attached + 1 } in p) (sym port)
    ∙ ap (λ x. let p : DeskState P = record { number = desk.number; port = desk.port; counted = x; attached = old.desk.attached + 1 } in p) (sym counted)
    ∙ ap (λ x. let p : DeskState P = record { number = desk.number; port = desk.port; counted = desk.counted; attached = x } in p) (sym attached) in
    let seat_is : (let s : Seat = record { desk = old.desk.number; tracee = tracee; sums = no_totals } in s ≡ seat) =
    ap (λ x. let s : Seat = record { desk = x; tracee = tracee; sums = no_totals } in s) (sym at)
    ∙ ap (λ x. let s : Seat = record { desk = seat.desk; tracee = x; sums = no_totals } in s) (sym is)
    ∙ ap (λ x. let s : Seat = record { desk = seat.desk; tracee = seat.tracee; sums = x } in s) (sym sums) in
    let line = desk_lines.Tracee n capacity drop_limit flags in
    subst (λ (s : List Seat). let new : DeskSide P = record { desk = desk; moment = old.moment; seats = s } in IsAskedAtDesk told old new line answers.Done no_effect) (ap (λ (s : Seat). old.seats ++ s ∷ []) seat_is ∙ sym sit)
    (subst (λ (p : DeskState P). let new : DeskSide P = record { desk = p; moment = old.moment; seats = old.seats ++ record { desk = old.desk.number; tracee = tracee; sums = no_totals } ∷ [] } in IsAskedAtDesk told old new line answers.Done no_effect) place_is
    (attaches free fits made))
