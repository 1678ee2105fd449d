-- What a run of lines on what is held keeps.
use Rattle.std.proofs.Common.{◌≡◌, ◌⊎◌, inl, inr, ⊎_elim, ℕ, Option, None, List, [], ◌∷◌, ◌++◌, Result, refl, sym, ◌∙◌, ap, subst}
use Rattle.std.proofs.lemmas.List.{append-nil}
use Rattle.trace_store.specs.Disk.{Image}
use Rattle.segment.specs.Specification.{Spec}
use Rattle.recovery.specs.Items.{Item}
use Rattle.recovery.specs.Views.{View, extend}
use Rattle.trace_store.specs.Moments.{Rose}
use Rattle.trace_store.specs.Device.{Device, Leaves, IsIdle}
use Rattle.trace_port.specs.Clocks.{clock_sealed}
use Rattle.trace_port.specs.Sound.{Sound}
use Rattle.trace_port.specs.Port.{Told, Fits, AreSealed, gate_behind, has_sealed, Ends}
use Rattle.trace_port.specs.PortCalls.{Finishes}
use Rattle.trace_port.proofs.Leaving.{stays_idle, idle_twice}
use Rattle.trace_port.proofs.Lending.{ends_after}
use Rattle.trace_port.specs.Effects.{Effect, items_in, covered_by, Calls, IsSoundSince}
use Rattle.trace_port.specs.Opened.{IsAsOpened}
use Rattle.trace_port.proofs.Composed.{IsStill, items_in-append, calls_both, no_call}
use Rattle.trace_port.proofs.Runs.{sound_since, sound_inside}
use Rattle.script_runner.specs.declared.answer.Answer.{Answer}
use Rattle.script_runner.specs.declared.reply.Leave.{Leave}
use Rattle.script_runner.specs.declared.reply.Reply.TheVariants.{Told as Answered, Left}
use Rattle.script_runner.specs.declared.fault.SimFault.{SimFault}
use Rattle.script_runner.specs.Texts.{line_of}
use Rattle.script_runner.specs.Sides.{Held, Alone, AtDesk, port_of}
use Rattle.script_runner.specs.Asked.{IsAsked}
use Rattle.script_runner.specs.Read.{Stretch}
use Rattle.script_runner.specs.Held.{Exchange, AreAsked, ends, leaves, asks, left_by, effects, accepted, IsSoundThroughout, IsLetGo, Ran, IsHeld, WasHeld}
use Rattle.script_runner.proofs.Asking.{asked_calls}

-- the calls of a run
pub run_calls : {P : Type 0} (told : P → Told) → ((p : P) → IsStill (told p)) → (old new : Held P) (done : List Exchange) (leave : Option Leave) → AreAsked told old done leave new → Calls (told (port_of old)) (told (port_of new)) (effects done)
run_calls told still old new done leave ends = no_call (told (port_of old)) (still (port_of old))
run_calls told still old new done leave (leaves {line = line} {leave = left} {effect = did} step) = asked_calls told still old new line (Left left) did step
run_calls told still old new done leave (asks {after = mid} {line = line} {answer = answer} {effect = did} {more = more} {leave = left} step rest) =
    calls_both (told (port_of old)) (told (port_of mid)) (told (port_of new)) (did ∷ []) (effects more) (asked_calls told still old mid line (Answered answer) did step) (run_calls told still mid new more left rest)

-- ---- the moments of a run, and of the end of its port

pub effects-append : (before after : List Exchange) → effects (before ++ after) ≡ effects before ++ effects after
effects-append [] after = refl
effects-append (one ∷ before) after = ap (λ (l : List Effect). one.effect ∷ l) (effects-append before after)

pub accepted-append : (before after : List Exchange) → accepted (before ++ after) ≡ accepted before ++ accepted after
accepted-append before after = ap items_in (effects-append before after) ∙ items_in-append (effects before) (effects after)

module _ {P : Type 0} (told : P → Told) (still : (p : P) → IsStill (told p)) (first end : Held P) (last : Device) (run : List Exchange) (leave : Option Leave) (over : Ends (told (port_of end)) last) (h : last.honest) (v0 : View) (c : ℕ) (f : Fits (told (port_of first)) v0 [] c) where
  pub is_sound_since : (before after : List Exchange) (now : Held P) → run ≡ before ++ after → AreAsked told first before None now → AreAsked told now after leave end
      → IsSoundSince (told (port_of now)) last v0 (accepted before) (accepted run) (covered_by v0 [] c (effects before))
  is_sound_since before after now parts one two =
      subst (λ (l : List Item). IsSoundSince (told (port_of now)) last v0 (accepted before) l (covered_by v0 [] c (effects before))) (sym (ap accepted parts ∙ accepted-append before after))
      (sound_since (told (port_of first)) (told (port_of now)) (told (port_of end)) last (effects before) (effects after) (run_calls told still first now before None one) (run_calls told still now end after leave two) over h v0 c f)

  pub is_inside : (before after : List Exchange) (one : Exchange) (now next : Held P) → run ≡ before ++ one ∷ after → AreAsked told first before None now → IsAsked told now next one.line one.reply one.effect → AreAsked told next after leave end
      → (image : Image) → last.moments (told (port_of now)).device.clock image
      → last.moments (told (port_of next)).device.clock image ⊎ Sound (told (port_of now)).spec v0 (accepted (before ++ one ∷ [])) (covered_by v0 [] c (effects before)) image
  is_inside before after one now next parts first_run step rest image left =
      subst (λ (l : List Item). last.moments (told (port_of next)).device.clock image ⊎ Sound (told (port_of now)).spec v0 l (covered_by v0 [] c (effects before)) image) (sym (accepted-append before (one ∷ [])))
      (sound_inside (told (port_of first)) (told (port_of now)) (told (port_of next)) (told (port_of end)) last (effects before) (effects after) one.effect
      (run_calls told still first now before None first_run) (asked_calls told still now next one.line one.reply one.effect step) (run_calls told still next end after leave rest) over h v0 c f image left)

  pub is_sound_throughout : IsSoundThroughout told first run leave end last v0 c
  is_sound_throughout = record { each = is_sound_since; inside = is_inside }

-- ---- the end of a desk and the drop of its port

rose_still : (before mid now : ℕ) → now ≡ mid → Rose before mid → Rose before now
rose_still before mid now same rose = subst (λ (n : ℕ). Rose before n) (sym same) rose

-- a desk finished its port, whose own drop then made no device call
finished_ends : (old mid : Told) (last : Device) → Finishes old mid → Ends mid last → Ends old last
finished_ends old mid last finished dropped =
    let idle = dropped.idle finished.over in
    record {
      was_honest = λ h. finished.ends.was_honest (dropped.was_honest h);
      moments = λ h v0 ys c f. subst (λ (l : List Item). Leaves old.device last (Sound old.spec v0 l c)) (append-nil ys)
          (ends_after old mid last [] (has_sealed old.state mid.state) finished.grows dropped h v0 ys c f);
      saved = λ h v0 ys c f live.
          let place = gate_behind old.gate old.pending in
          ⊎_elim
          (λ (all : AreSealed old.spec (extend old.spec v0 ys) place mid.device.images).
          inl (record { chain = all.chain; alike = λ image left. all.alike image (idle.images.no_more image left); view = all.view; sealed = all.sealed; gate = all.gate }))
          (λ (rose : Rose old.device.failures mid.device.failures). inr (rose_still old.device.failures mid.device.failures last.failures idle.failures rose))
          (finished.ends.saved (dropped.was_honest h) v0 ys c f live);
      calls = λ live. ⊎_elim
          (λ (clock : mid.device.clock ≡ clock_sealed old.device.clock old.pending). inl (idle.clock ∙ clock))
          (λ (rose : Rose old.device.failures mid.device.failures). inr (rose_still old.device.failures mid.device.failures last.failures idle.failures rose))
          (finished.ends.calls live);
      idle = λ dead. idle_twice old.device mid.device last (finished.ends.idle dead) idle;
    }

pub let_go_ends : {P : Type 0} (told : P → Told) (end : Held P) (q : P) (last : Device) → IsLetGo told end q → Ends (told q) last → Ends (told (port_of end)) last
let_go_ends {P} told (Alone p) q last same over = subst (λ (x : P). Ends (told x) last) same over
let_go_ends told (AtDesk side) q last finished over = finished_ends (told side.desk.port) (told q) last finished over

-- a port over an opening: what it was asked, and what its end left
unfoldable pub is_held : {P : Type 0} (told : P → Told) → ((p : P) → IsStill (told p)) → (start : P → Held P) → ((p : P) → port_of (start p) ≡ p) → (opened : Told) (first let_go : P) (end : Held P) (last : Device) (done : List Exchange) (leave : Option Leave)
    → ((Q : Device → Type 0) → Q (told first).device → Q opened.device) → IsAsOpened opened (told first) → ((v0 : View) (ys : List Item) (c : ℕ) → Fits opened v0 ys c → Fits (told first) v0 ys c) → Ends (told let_go) last
    → AreAsked told (start first) done leave end → IsLetGo told end let_go → IsHeld told start opened done leave last
is_held {P} told still start starts opened first let_go end last done leave moved as_opened fits drops run lets_go =
    let over = let_go_ends told end let_go last lets_go drops in
    let at_start : (v0 : View) (c : ℕ) → Fits opened v0 [] c → Fits (told (port_of (start first))) v0 [] c = λ v0 c f. subst (λ (p : P). Fits (told p) v0 [] c) (sym (starts first)) (fits v0 [] c f) in
    record {
      first = first;
      end = end;
      let_go = let_go;
      as_opened = as_opened;
      at_first = moved (λ d. IsIdle d (told first).device) (stays_idle (told first).device);
      fits = fits;
      asks = run;
      lets_go = lets_go;
      drops = drops;
      over = over;
      was_honest = λ h. moved (λ d. d.honest) (subst (λ (p : P). (told p).device.honest) (starts first) ((run_calls told still (start first) end done leave run).was_honest (over.was_honest h)));
      whole = λ h v0 c f. moved (λ d. Leaves d last (Sound opened.spec v0 (accepted done) c))
          (subst (λ (spec : Spec). Leaves (told first).device last (Sound spec v0 (accepted done) c)) as_opened.spec
          (subst (λ (p : P). Leaves (told p).device last (Sound (told p).spec v0 (accepted done) c)) (starts first)
          (is_sound_since told still (start first) end last done leave over h v0 c (at_start v0 c f) [] done (start first) refl ends run).since));
      lines = λ h v0 c f. is_sound_throughout told still (start first) end last done leave over h v0 c (at_start v0 c f);
    }

-- the same, with what was written
pub was_held : {P : Type 0} (told : P → Told) → ((p : P) → IsStill (told p)) → (start : P → Held P) → ((p : P) → port_of (start p) ≡ p) → (opened : Told) (greets : ℕ → Answer) (first let_go : P) (last : Device) (files : ℕ) (taken : Stretch) (left : Result (Option Leave) SimFault) (Writes : List ℕ → Type 0)
    → ((Q : Device → Type 0) → Q (told first).device → Q opened.device) → IsAsOpened opened (told first) → ((v0 : View) (ys : List Item) (c : ℕ) → Fits opened v0 ys c → Fits (told first) v0 ys c) → Ends (told let_go) last
    → Ran told (start first) files taken left (λ end. IsLetGo told end let_go) (line_of (greets (told first).total)) Writes → WasHeld told start opened greets files taken left last Writes
unfolding is_held
was_held told still start starts opened greets first let_go last files taken left Writes moved as_opened fits drops ran = record {
  done = ran.done;
  held = is_held told still start starts opened first let_go ran.end last ran.done (left_by left) moved as_opened fits drops ran.asks ran.stands;
  read = ran.read;
  text = ran.text;
}

-- ---- a run and then another

pub then_more : {P : Type 0} (told : P → Told) (old mid new : Held P) (done more : List Exchange) (leave : Option Leave) → AreAsked told old done None mid → AreAsked told mid more leave new → AreAsked told old (done ++ more) leave new
then_more told old mid new done more leave ends rest = rest
then_more told old mid new done more leave (asks {after = after} {more = later} one run) rest = asks one (then_more told after mid new later more leave run rest)
