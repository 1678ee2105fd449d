-- The lines of a script that were read in a run.
use Rattle.std.proofs.Common.{◌≡◌, ℕ, ◌+◌, ◌≤◌, pos, Bool, Option, Some, None, List, [], ◌∷◌, ◌++◌, length, All, Result, Ok, Err, refl, sym, ◌∙◌, subst, ap, append_assoc, arith}
use Rattle.std.proofs.lemmas.List.{append-nil, length-append}
use Rattle.std.proofs.lemmas.List.Elements.{All-nil, All-append, All-push}
use Rattle.std.proofs.KnownBytes.{Consumes-nil}
use Rattle.std.specs.Io.KnownBytes.{Appends}
use Rattle.trace_client.specs.Output.{AppendsPrefix}
use Rattle.trace_port.specs.Port.{Told}
use Rattle.trace_port.specs.PortCalls.{Finishes}
use Rattle.trace_message.specs.declared.event.Stamp.{Stamp}
use Rattle.tracees.specs.Desks.{DeskState, Seat}
use Rattle.trace_port.specs.Effects.{Effect}
use Rattle.script_lines.specs.Lines.{IsOfFiles}
use Rattle.script_lines.specs.Reading.{Progress, HasNext, HasEnded, HasStopped, Breaks, AreTaken, AreGiven, TellsNext, IsSilent}
use Rattle.script_lines.specs.declared.line.Line.{Line}
use Rattle.script_lines.specs.declared.fault.ScriptFault.TheVariants as scripts
use Rattle.script_runner.specs.declared.answer.Answer.{Answer}
use Rattle.script_runner.specs.declared.reply.Leave.{Leave}
use Rattle.script_runner.specs.declared.reply.Reply.{Reply}
use Rattle.script_runner.specs.declared.reply.Reply.TheVariants.{Told as Answered, Left}
use Rattle.script_runner.specs.declared.fault.SimFault.{SimFault}
use Rattle.script_runner.specs.declared.fault.SimFault.TheVariants as faults
use Rattle.script_runner.specs.Texts.{line_of}
use Rattle.script_runner.specs.Sides.{DeskSide, Held, AtDesk, first_side, new_side}
use Rattle.script_runner.specs.Asked.{IsAsked}
use Rattle.script_runner.specs.Read.{Stretch, stretch, ComesNext, IsBrokenOff, AreTheLines}
use Rattle.script_runner.specs.Held.{Exchange, lines_of, ends, leaves, asks, left_by, reply_text, written, last_text, Tells, all, not_all, IsLetGo, IsAtDesk, Ran}
use Rattle.script_runner.proofs.Running.{then_more}
use Rattle.script_runner.proofs.Written.{HasWritten, appends_none, appends_both, written-append, finished_there}

-- ---- what is told of the next line

pub next_line : (of_desk here : Bool) (was is : Progress) (found : Option Line) (line : Line) → here ≡ of_desk → found ≡ Some line → TellsNext here was is (Ok found) → HasNext of_desk was is line
next_line of_desk here was is (Some other) line same e told =
    let at : other ≡ line = cc in
    subst (λ (l : Line). HasNext of_desk was is l) at (subst (λ (d : Bool). HasNext d was is other) same told)
next_line of_desk here was is None line same e told = cc

pub no_more : (here : Bool) (was is : Progress) (found : Option Line) → found ≡ None → TellsNext here was is (Ok found) → HasEnded was is
no_more here was is None e told = told
no_more here was is (Some line) e told = cc

-- the line that comes next is the script's, and names no file that isn't there
pub line_comes : (of_desk here : Bool) (files : ℕ) (was is : Progress) (found : Option Line) (line : Line) → here ≡ of_desk → found ≡ Some line → ComesNext here files was is (Ok found) → HasNext of_desk was is line × IsOfFiles files line
line_comes of_desk here files was is (Some other) line same e comes =
    let at : other ≡ line = cc in
    subst (λ (l : Line). HasNext of_desk was is l × IsOfFiles files l) at (subst (λ (d : Bool). HasNext d was is other) same comes.0, comes.1)
line_comes of_desk here files was is None line same e comes = cc

pub none_comes : (here : Bool) (files : ℕ) (was is : Progress) (found : Option Line) → found ≡ None → ComesNext here files was is (Ok found) → HasEnded was is
none_comes here files was is None e comes = comes
none_comes here files was is (Some line) e comes = cc

-- no line was read at the last
pub none_read : (of_desk : Bool) (at : Progress) → HasStopped of_desk at at scripts.Read
none_read of_desk at = record { silent = []; each = All-nil IsSilent; mid = at; before = AreTaken.none; breaks = Breaks.unread [] (Consumes-nil at.left) }

-- ---- the lines that were done

lines_of-append : (done more : List Exchange) → lines_of (done ++ more) ≡ lines_of done ++ lines_of more
lines_of-append [] more = refl
lines_of-append (one ∷ done) more = ap (λ (l : List Line). one.line ∷ l) (lines_of-append done more)

-- the script gave these lines, and each names no file that isn't there
pub record AreDone (of_desk : Bool) (files : ℕ) (from to : Progress) (done : List Line) : Type 0 where
  pub given : AreGiven of_desk from done to
  pub each : All (IsOfFiles files) done

given_both : (of_desk : Bool) (from at to : Progress) (done more : List Line) → AreGiven of_desk from done at → AreGiven of_desk at more to → AreGiven of_desk from (done ++ more) to
given_both of_desk from at to done more one AreGiven.none = subst (λ (l : List Line). AreGiven of_desk from l at) (sym (append-nil done)) one
given_both of_desk from at to done more one (AreGiven.more {before = before} {mid = mid} line two next) =
    subst (λ (l : List Line). AreGiven of_desk from l to) (append_assoc done before (line ∷ [])) (AreGiven.more line (given_both of_desk from at mid done before one two) next)

done_none : (of_desk : Bool) (files : ℕ) (from : Progress) → AreDone of_desk files from from []
done_none of_desk files from = record { given = AreGiven.none; each = All-nil (IsOfFiles files) }

done_more : (of_desk : Bool) (files : ℕ) (from at to : Progress) (done : List Exchange) (one : Exchange) → AreDone of_desk files from at (lines_of done) → HasNext of_desk at to one.line → IsOfFiles files one.line → AreDone of_desk files from to (lines_of (done ++ one ∷ []))
done_more of_desk files from at to done one d next there = subst (λ (l : List Line). AreDone of_desk files from to l) (sym (lines_of-append done (one ∷ [])))
    (record { given = AreGiven.more one.line d.given next; each = All-push (IsOfFiles files) (lines_of done) one.line d.each there })

-- what a run has done, written and read until now
pub record HasRead {P : Type 0} (told : P → Told) (old : Held P) (leave : Option Leave) (new : Held P) (before now : Option (List ℕ)) (of_desk : Bool) (files : ℕ) (from to : Progress) : Type 0 where
  pub run : HasWritten told old leave new before now
  pub read : AreDone of_desk files from to (lines_of run.done)

pub reads_none : {P : Type 0} (told : P → Told) (held : Held P) (known : Option (List ℕ)) (of_desk : Bool) (files : ℕ) (from : Progress) → HasRead told held None held known known of_desk files from from
reads_none told held known of_desk files from = record { run = record { done = []; asked = ends; text = appends_none known }; read = done_none of_desk files from }

-- a desk before its first line
pub reads_none_there : {P : Type 0} (told : P → Told) (place : DeskState P) (moment : Stamp) (seats : List Seat) (known : Option (List ℕ)) (of_desk : Bool) (files : ℕ) (from : Progress) → (let zero : Stamp = record { mega = 0; sec = 0; micro = 0; mono = pos 0 } in moment ≡ zero) → seats ≡ []
    → (let now : DeskSide P = record { desk = place; moment = moment; seats = seats } in HasRead told (AtDesk (first_side place)) None (AtDesk now) known known of_desk files from from)
reads_none_there {P} told place moment seats known of_desk files from at none =
    subst (λ (m : Stamp). let now : DeskSide P = record { desk = place; moment = m; seats = seats } in HasRead told (AtDesk (first_side place)) None (AtDesk now) known known of_desk files from from) (sym at)
    (subst (λ (s : List Seat). let now : DeskSide P = record { desk = place; moment = record { mega = 0; sec = 0; micro = 0; mono = pos 0 }; seats = s } in HasRead told (AtDesk (first_side place)) None (AtDesk now) known known of_desk files from from) (sym none)
    (reads_none told (AtDesk (first_side place)) known of_desk files from))

-- a line that was read and answered, and what was written of it
pub reads_on : {P : Type 0} (told : P → Told) (old mid new : Held P) (line : Line) (reply : Reply) (answer : Answer) (start before now : Option (List ℕ)) (of_desk : Bool) (files : ℕ) (from at to : Progress) → HasRead told old None mid start before of_desk files from at
    → (did : Effect) × IsAsked told mid new line reply did → reply ≡ Answered answer → HasNext of_desk at to line → IsOfFiles files line → Appends before now (line_of answer) → HasRead told old None new start now of_desk files from to
reads_on told old mid new line reply answer start before now of_desk files from at to has step is next there text =
    let one : Exchange = record { line = line; reply = Answered answer; effect = step.0 } in
    record {
      run = record {
        done = has.run.done ++ one ∷ [];
        asked = then_more told old mid new has.run.done (one ∷ []) None has.run.asked (asks (subst (λ (r : Reply). IsAsked told mid new line r step.0) is step.1) ends);
        text = subst (λ (l : List ℕ). Appends start now l) (sym (written-append has.run.done (one ∷ []))) (appends_both start before now (written has.run.done) (written (one ∷ [])) has.run.text
            (subst (λ (l : List ℕ). Appends before now l) (sym (append-nil (line_of answer))) text));
      };
      read = done_more of_desk files from at to has.run.done one has.read next there;
    }

-- ---- what a fault leaves written

shorter : (text taken left : List ℕ) → text ≡ taken ++ left → length left ≤ length text
shorter text taken left is = let e : length text ≡ length taken + length left = ap length is ∙ length-append taken left in omega (arith, e)

last_of-append : (greeting : List ℕ) (done : List Exchange) (one : Exchange) → last_text greeting (done ++ one ∷ []) ≡ reply_text one.reply
last_of-append greeting [] one = refl
last_of-append greeting (first ∷ done) one = last_of-append (reply_text first.reply) done one

-- the last text is no shorter where more was written before
last_longer : (greeting : List ℕ) (done more : List Exchange) → length (last_text [] more) ≤ length (last_text greeting (done ++ more))
last_longer greeting [] [] = omega arith
last_longer greeting [] (one ∷ more) = omega arith
last_longer greeting (one ∷ done) more = last_longer (reply_text one.reply) done more

-- what was written after another text, as what was written of it all
tells_after : (start before now : Option (List ℕ)) (first greeting : List ℕ) (more whole : List Exchange) (r : Result (Option Leave) SimFault) → Appends start before first → first ++ written more ≡ greeting ++ written whole → length (last_text [] more) ≤ length (last_text greeting whole)
    → Tells (λ text. Appends before now text) [] more r → Tells (λ text. Appends start now text) greeting whole r
tells_after start before now first greeting more whole r wrote same longer (all text) = all (subst (λ (l : List ℕ). Appends start now l) same (appends_both start before now first (written more) wrote text))
tells_after start before now first greeting more whole (Err faults.Write) wrote same longer (not_all begun lacks text) =
    not_all (first ++ begun)
    (record { missing = lacks.missing; is = sym same ∙ ap (λ (l : List ℕ). first ++ l) lacks.is ∙ sym (append_assoc first begun lacks.missing); of_last = omega (arith, longer, lacks.of_last) })
    (appends_both start before now first begun wrote text)

-- a line whose answer wasn't written whole
tells_behind : (start before now : Option (List ℕ)) (done : List Exchange) (one : Exchange) → Appends start before (written done) → AppendsPrefix before now (reply_text one.reply) → Tells (λ text. Appends start now text) [] (done ++ one ∷ []) (Err faults.Write)
tells_behind start before now done one wrote cut =
    not_all (written done ++ cut.taken)
    (record {
      missing = cut.left;
      is = written-append done (one ∷ []) ∙ ap (λ (l : List ℕ). written done ++ l) (append-nil (reply_text one.reply) ∙ cut.is) ∙ sym (append_assoc (written done) cut.taken cut.left);
      of_last = subst (λ (l : List ℕ). length cut.left ≤ length l) (sym (last_of-append [] done one)) (shorter (reply_text one.reply) cut.taken cut.left cut.is);
    })
    (appends_both start before now (written done) cut.taken wrote cut.appends)

-- ---- a run that has ended

-- with the script
pub ran_through : {P : Type 0} (told : P → Told) (old new : Held P) (Stands : Held P → Type 0) (start now : Option (List ℕ)) (of_desk : Bool) (files : ℕ) (from at to : Progress) → HasRead told old None new start now of_desk files from at → Stands new → HasEnded at to
    → Ran told old files (stretch of_desk from to) (Ok None) Stands [] (λ text. Appends start now text)
ran_through told old new Stands start now of_desk files from at to has stands ended = record {
  done = has.run.done;
  end = new;
  asks = has.run.asked;
  read = record { last = at; read = has.read.given; each = has.read.each; ends = ended };
  stands = stands;
  text = all has.run.text;
}

-- with a line that leaves the port
pub left_through : {P : Type 0} (told : P → Told) (old mid new : Held P) (Stands : Held P → Type 0) (line : Line) (reply : Reply) (leave : Leave) (start before : Option (List ℕ)) (of_desk : Bool) (files : ℕ) (from at to : Progress) → HasRead told old None mid start before of_desk files from at
    → (did : Effect) × IsAsked told mid new line reply did → reply ≡ Left leave → Stands new → HasNext of_desk at to line → IsOfFiles files line → Ran told old files (stretch of_desk from to) (Ok (Some leave)) Stands [] (λ text. Appends start before text)
left_through told old mid new Stands line reply leave start before of_desk files from at to has step is stands next there =
    let one : Exchange = record { line = line; reply = Left leave; effect = step.0 } in
    let read = done_more of_desk files from at to has.run.done one has.read next there in
    record {
      done = has.run.done ++ one ∷ [];
      end = new;
      asks = then_more told old mid new has.run.done (one ∷ []) (Some leave) has.run.asked (leaves (subst (λ (r : Reply). IsAsked told mid new line r step.0) is step.1));
      read = record { last = to; read = read.given; each = read.each; ends = refl };
      stands = stands;
      text = all (subst (λ (l : List ℕ). Appends start before l) (sym (written-append has.run.done (one ∷ []))) (appends_both start before before (written has.run.done) [] has.run.text (appends_none before)));
    }

-- with a fault
pub failed_through : {P : Type 0} (told : P → Told) (old new : Held P) (Stands : Held P → Type 0) (fault : SimFault) (start now : Option (List ℕ)) (of_desk : Bool) (files : ℕ) (from at to : Progress) → HasRead told old None new start now of_desk files from at → Stands new
    → IsBrokenOff of_desk files at to fault → Ran told old files (stretch of_desk from to) (Err fault) Stands [] (λ text. Appends start now text)
failed_through told old new Stands fault start now of_desk files from at to has stands broken = record {
  done = has.run.done;
  end = new;
  asks = has.run.asked;
  read = record { last = at; read = has.read.given; each = has.read.each; ends = broken };
  stands = stands;
  text = all has.run.text;
}

-- before the first line, where the greeting wasn't written whole
pub not_greeted : {P : Type 0} (told : P → Told) (held : Held P) (Stands : Held P → Type 0) (greeting : List ℕ) (start now : Option (List ℕ)) (of_desk : Bool) (files : ℕ) (from to : Progress) → Stands held → to ≡ from → AppendsPrefix start now greeting
    → Ran told held files (stretch of_desk from to) (Err faults.Write) Stands greeting (λ text. Appends start now text)
not_greeted told held Stands greeting start now of_desk files from to stands same cut = record {
  done = [];
  end = held;
  asks = ends;
  read = record { last = from; read = AreGiven.none; each = All-nil (IsOfFiles files); ends = IsBrokenOff.not_written same };
  stands = stands;
  text = not_all cut.taken (record { missing = cut.left; is = append-nil greeting ∙ cut.is; of_last = shorter greeting cut.taken cut.left cut.is }) cut.appends;
}

-- with a line whose answer wasn't written whole
pub failed_behind : {P : Type 0} (told : P → Told) (old mid new : Held P) (Stands : Held P → Type 0) (line : Line) (reply : Reply) (answer : Answer) (start before now : Option (List ℕ)) (of_desk : Bool) (files : ℕ) (from at to : Progress)
    → HasRead told old None mid start before of_desk files from at → (did : Effect) × IsAsked told mid new line reply did → reply ≡ Answered answer → Stands new → HasNext of_desk at to line → IsOfFiles files line → AppendsPrefix before now (line_of answer)
    → Ran told old files (stretch of_desk from to) (Err faults.Write) Stands [] (λ text. Appends start now text)
failed_behind told old mid new Stands line reply answer start before now of_desk files from at to has step is stands next there cut =
    let one : Exchange = record { line = line; reply = Answered answer; effect = step.0 } in
    let read = done_more of_desk files from at to has.run.done one has.read next there in
    record {
      done = has.run.done ++ one ∷ [];
      end = new;
      asks = then_more told old mid new has.run.done (one ∷ []) None has.run.asked (asks (subst (λ (r : Reply). IsAsked told mid new line r step.0) is step.1) ends);
      read = record { last = to; read = read.given; each = read.each; ends = IsBrokenOff.not_written refl };
      stands = stands;
      text = tells_behind start before now has.run.done one has.run.text cut;
    }

-- ---- another run that went on after it

lines_both : (of_desk : Bool) (files : ℕ) (from at to : Progress) (r : Result (Option Leave) SimFault) (done more : List Exchange) → AreDone of_desk files from at (lines_of done) → AreTheLines files (stretch of_desk at to) r (lines_of more)
    → AreTheLines files (stretch of_desk from to) r (lines_of (done ++ more))
lines_both of_desk files from at to r done more one two = subst (λ (l : List Line). AreTheLines files (stretch of_desk from to) r l) (sym (lines_of-append done more)) (record {
  last = two.last;
  read = given_both of_desk from at two.last (lines_of done) (lines_of more) one.given two.read;
  each = All-append (IsOfFiles files) (lines_of done) (lines_of more) one.each two.each;
  ends = two.ends;
})

pub ran_on : {P : Type 0} (told : P → Told) (old mid : Held P) (r : Result (Option Leave) SimFault) (Stands : Held P → Type 0) (start before now : Option (List ℕ)) (of_desk : Bool) (files : ℕ) (from at to : Progress) → HasRead told old None mid start before of_desk files from at
    → Ran told mid files (stretch of_desk at to) r Stands [] (λ text. Appends before now text) → Ran told old files (stretch of_desk from to) r Stands [] (λ text. Appends start now text)
ran_on told old mid r Stands start before now of_desk files from at to has more = record {
  done = has.run.done ++ more.done;
  end = more.end;
  asks = then_more told old mid more.end has.run.done more.done (left_by r) has.run.asked more.asks;
  read = lines_both of_desk files from at to r has.run.done more.done has.read more.read;
  stands = more.stands;
  text = tells_after start before now (written has.run.done) [] more.done (has.run.done ++ more.done) r has.run.text (sym (written-append has.run.done more.done)) (last_longer [] has.run.done more.done) more.text;
}

-- where the next run has the line as its first one
pub ran_after : {P : Type 0} (told : P → Told) (old mid : Held P) (r : Result (Option Leave) SimFault) (Stands : Held P → Type 0) (start before now : Option (List ℕ)) (of_desk here : Bool) (files : ℕ) (from at behind to : Progress) (line first : Line) → here ≡ of_desk → line ≡ first
    → HasRead told old None mid start before of_desk files from at → HasNext of_desk at behind line → ((was : Progress) → HasNext here was behind first → Ran told mid files (stretch here was to) r Stands [] (λ text. Appends before now text))
    → Ran told old files (stretch of_desk from to) r Stands [] (λ text. Appends start now text)
ran_after told old mid r Stands start before now of_desk here files from at behind to line first same is has next more =
    ran_on told old mid r Stands start before now of_desk files from at to has
    (subst (λ (d : Bool). Ran told mid files (stretch d at to) r Stands [] (λ text. Appends before now text)) same
    (more at (subst (λ (l : Line). HasNext here at behind l) is (subst (λ (d : Bool). HasNext d at behind line) (sym same) next))))

-- what was written before a run
pub ran_behind : {P : Type 0} (told : P → Told) (old : Held P) (files : ℕ) (over : Stretch) (r : Result (Option Leave) SimFault) (Stands : Held P → Type 0) (start before now : Option (List ℕ)) (first : List ℕ) → Appends start before first
    → Ran told old files over r Stands [] (λ text. Appends before now text) → Ran told old files over r Stands first (λ text. Appends start now text)
ran_behind told old files over r Stands start before now first wrote run =
    record { done = run.done; end = run.end; asks = run.asks; read = run.read; stands = run.stands; text = tells_after start before now first first run.done run.done r wrote refl (last_longer first [] run.done) run.text }

-- at a desk that then has finished its port
pub ran_to_end : {P : Type 0} (told : P → Told) (first : Held P) (files : ℕ) (over : Stretch) (r : Result (Option Leave) SimFault) (desk : DeskState P) (q : P) (greeting : List ℕ) (Writes : List ℕ → Type 0) → Finishes (told desk.port) (told q) → Ran told first files over r (IsAtDesk desk) greeting Writes
    → Ran told first files over r (λ end. IsLetGo told end q) greeting Writes
ran_to_end told first files over r desk q greeting Writes finished run = record { done = run.done; end = run.end; asks = run.asks; read = run.read; stands = finished_there told desk q run.end finished run.stands; text = run.text }

-- at a desk that has just been made
pub ran_from_new : {P : Type 0} (told : P → Told) (p : P) (desk : DeskState P) (files : ℕ) (over : Stretch) (r : Result (Option Leave) SimFault) (Stands : Held P → Type 0) (greeting : List ℕ) (Writes : List ℕ → Type 0) → first_side desk ≡ new_side p
    → Ran told (AtDesk (first_side desk)) files over r Stands greeting Writes → Ran told (AtDesk (new_side p)) files over r Stands greeting Writes
ran_from_new {P} told p desk files over r Stands greeting Writes is run = subst (λ (side : DeskSide P). Ran told (AtDesk side) files over r Stands greeting Writes) is run
