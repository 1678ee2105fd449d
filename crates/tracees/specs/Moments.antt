-- What holds after a run, and at each moment of it.
use Rattle.std.specs.Prelude.{◌≡◌, ◌⊎◌, ℕ, ◌≤◌, Bool, List, ◌∷◌, ◌++◌, slice_get, Some}
use Rattle.entry_codec.specs.Entries.{Entry, joined}
use Rattle.trace_store.specs.Disk.{Image}
use Rattle.recovery.specs.Items.{Item}
use Rattle.recovery.specs.Views.{View}
use Rattle.trace_store.specs.Device.{Leaves}
use Rattle.trace_port.specs.Sound.{Sound, ReadsAs}
use Rattle.trace_port.specs.Port.{Told, Fits}
use Rattle.intake.specs.Histories.{History}
use Rattle.intake.specs.Passed.{HasPassed}
use Rattle.tracees.specs.Agreement.{IsAgreed}
use Rattle.tracees.specs.Desks.{DeskState, Seat}
use Rattle.tracees.specs.Steps.{State, IsStep, Run}
use Rattle.trace_port.specs.Effects.{items_in, covered_by, Calls}
use Rattle.tracees.specs.Effects.{receipt_in, effect_at, effects_at, history_after, carried}
use Rattle.tracees.specs.declared.receipt.Receipt.{Receipt}
use Rattle.tracees.specs.declared.step.Step.{Step}
use Rattle.tracees.specs.declared.step.Reply.{Reply}

-- each desk's port made calls with the effects that the replies tell
abbrev pub AreGrown : {P : Type 0} → (P → Told) → State P → List Step → List Reply → State P → Type 0
AreGrown {P} told first steps replies last =
    (place : ℕ) (a d : DeskState P) → slice_get first.desks place ≡ Some a → slice_get last.desks place ≡ Some d → Calls (told a.port) (told d.port) (effects_at place steps replies)

-- what was taken from each tracee, and what waits, are what its history tells, grown by its steps
abbrev pub AreCarried : {P : Type 0} → State P → List Step → List Reply → State P → Type 0
AreCarried first steps replies last = (place : ℕ) (was is : Seat) → slice_get first.tracees place ≡ Some was → slice_get last.tracees place ≡ Some is
    → (before : List Entry) (h : History) (taken : List Entry) → HasPassed before h taken was.tracee
    → HasPassed before (history_after place was.tracee h steps replies) (taken ++ carried place steps replies) is.tracee

-- a desk's port before a step of a run, after it and at the end of the run; the view that the port began with; what it had accepted
-- before the step, after it and at the end; and how much was covered before the step
pub record AroundStep : Type 1 where
  pub now : Told
  pub then : Told
  pub last : Told
  pub began : View
  pub before : List Item
  pub after : List Item
  pub all : List Item
  pub covered : ℕ

-- the moments since the step are sound
pub record AreSound (step : AroundStep) : Type 0 where
  pub fits : Fits step.now step.began step.before step.covered
  pub later : step.now.device.clock ≤ step.then.device.clock
  pub end : step.then.device.clock ≤ step.last.device.clock
  -- the images of now are among the moments since
  pub counts : (image : Image) → step.now.device.images image → step.last.device.moments step.now.device.clock image
  -- each moment since is sound for all that was accepted, by what was covered before the step
  pub since : Leaves step.now.device step.last.device (Sound step.now.spec step.began step.all step.covered)
  -- and one that isn't a moment since the next state is sound for what was accepted by then
  pub inside : (image : Image) → step.last.device.moments step.now.device.clock image
      → step.last.device.moments step.then.device.clock image ⊎ Sound step.now.spec step.began step.after step.covered image

-- a run parted at a step
pub record Parts {P : Type 0} (told : P → Told) (first : State P) (steps : List Step) (replies : List Reply) (last now then : State P)
    (steps_before : List Step) (before : List Reply) (step : Step) (reply : Reply) : Type 0 where
  pub steps_after : List Step
  pub after : List Reply
  pub steps_are : steps ≡ steps_before ++ step ∷ steps_after
  pub replies_are : replies ≡ before ++ reply ∷ after
  pub run_before : Run told first steps_before before now
  pub acts : IsStep told now then step reply
  pub run_after : Run told then steps_after after last

-- however a run is parted at a step, the moments since are sound at each desk for each triple that its port fitted at first
abbrev pub EachMoment : {P : Type 0} → (P → Told) → State P → List Step → List Reply → State P → Type 0
EachMoment {P} told first steps replies last =
    (now then : State P) (steps_before : List Step) (before : List Reply) (step : Step) (reply : Reply)
    → Parts told first steps replies last now then steps_before before step reply
    → (place : ℕ) (a b c d : DeskState P) → slice_get first.desks place ≡ Some a → slice_get now.desks place ≡ Some b → slice_get then.desks place ≡ Some c → slice_get last.desks place ≡ Some d
    → (told d.port).device.honest → (v0 : View) (ys : List Item) (n : ℕ) → Fits (told a.port) v0 ys n
    → AreSound (record {
      now = told b.port;
      then = told c.port;
      last = told d.port;
      began = v0;
      before = ys ++ items_in (effects_at place steps_before before);
      after = (ys ++ items_in (effects_at place steps_before before)) ++ (effect_at place step reply).items;
      all = ys ++ items_in (effects_at place steps replies);
      covered = covered_by v0 ys n (effects_at place steps_before before);
    })

-- each receipt for a desk, also one inside a refusal, agrees with the window of every image that the desk's store has at the end
abbrev pub AreReceiptsKept : {P : Type 0} → (P → Told) → State P → List Reply → State P → Type 0
AreReceiptsKept {P} told first replies last =
    (place : ℕ) (a d : DeskState P) → slice_get first.desks place ≡ Some a → slice_get last.desks place ≡ Some d → (told d.port).device.honest
    → (v0 : View) (ys : List Item) (c : ℕ) → Fits (told a.port) v0 ys c
    → (before after : List Reply) (reply : Reply) (receipt : Receipt) → replies ≡ before ++ reply ∷ after → receipt_in reply ≡ Some receipt → receipt.desk ≡ place
    → (image : Image) (window : View) (sealed : Bool) → (told d.port).device.images image → ReadsAs (told d.port).spec window sealed image
    → IsAgreed window.first (joined window.runs) receipt
