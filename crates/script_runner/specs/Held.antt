-- What is held while the lines of a script are run on it.
use Rattle.std.specs.Prelude.{◌≡◌, ◌⊎◌, ℕ, Option, Some, None, List, [], ◌∷◌, ◌++◌, length, ◌≤◌, Result, Ok, Err}
use Rattle.trace_store.specs.Disk.{Image}
use Rattle.recovery.specs.Items.{Item}
use Rattle.recovery.specs.Views.{View}
use Rattle.trace_store.specs.Device.{Device, device_of, Leaves, IsIdle}
use Rattle.trace_store.specs.declared.store.Store.{Ghosts}
use Rattle.trace_port.specs.Sound.{Sound}
use Rattle.trace_port.specs.Port.{Told, Fits, Ends}
use Rattle.trace_port.specs.PortCalls.{Finishes}
use Rattle.tracees.specs.Desks.{DeskState}
use Rattle.trace_port.specs.Effects.{Effect, items_in, covered_by, IsSoundSince}
use Rattle.trace_port.specs.Opened.{IsAsOpened, opened_told}
use Rattle.trace_port.specs.FilePort.{file_told}
use Rattle.trace_port.specs.contracts.pending.PendingRoom.TheImpl as pending
use Rattle.wrap_port.specs.WrapOpened.{wrap_opened_told}
use Rattle.wrap_port.specs.WrapPort.{wrap_told}
use Rattle.script_lines.specs.declared.line.Line.{Line}
use Rattle.script_runner.specs.declared.answer.Answer.{Answer}
use Rattle.script_runner.specs.declared.opening.AnyOpening.{AnyOpening}
use Rattle.script_runner.specs.declared.opening.AnyOpening.TheVariants as openings
use Rattle.script_runner.specs.declared.reply.Leave.{Leave}
use Rattle.script_runner.specs.declared.reply.Reply.{Reply}
use Rattle.script_runner.specs.declared.reply.Reply.TheVariants.{Told as Answered, Left}
use Rattle.script_runner.specs.declared.fault.SimFault.{SimFault}
use Rattle.script_runner.specs.declared.fault.SimFault.TheVariants as faults
use Rattle.script_runner.specs.Texts.{line_of}
use Rattle.script_runner.specs.Sides.{Held, Alone, AtDesk, port_of}
use Rattle.script_runner.specs.Asked.{IsAsked}
use Rattle.script_runner.specs.Read.{Stretch, AreTheLines}

-- a line that was read, and what came of it
pub record Exchange : Type 0 where
  pub line : Line
  pub reply : Reply
  -- what the port accepted and covered
  pub effect : Effect

-- the lines that were read
abbrev pub lines_of : List Exchange → List Line
lines_of [] = []
lines_of (one ∷ more) = one.line ∷ lines_of more

-- what is held is asked one line after another, until one leaves it or no more is read
pub data AreAsked {P : Type 0} (told : P → Told) : Held P → List Exchange → Option Leave → Held P → Type 0 where
  ends : {now : Held P} → AreAsked told now [] None now
  leaves : {now after : Held P} {line : Line} {leave : Leave} {effect : Effect} → IsAsked told now after line (Left leave) effect
      → AreAsked told now (record { line = line; reply = Left leave; effect = effect } ∷ []) (Some leave) after
  asks : {now after end : Held P} {line : Line} {answer : Answer} {effect : Effect} {more : List Exchange} {leave : Option Leave}
      → IsAsked told now after line (Answered answer) effect → AreAsked told after more leave end
      → AreAsked told now (record { line = line; reply = Answered answer; effect = effect } ∷ more) leave end

-- how a port was left; a fault only ends the reading of lines
abbrev pub left_by : Result (Option Leave) SimFault → Option Leave
left_by (Ok leave) = leave
left_by (Err fault) = None

-- what the port did in these lines, one after another
abbrev pub effects : List Exchange → List Effect
effects [] = []
effects (one ∷ more) = one.effect ∷ effects more

-- the items that the port accepted, in their order
abbrev pub accepted : List Exchange → List Item
accepted asked = items_in (effects asked)

-- what is written at once for a reply
abbrev pub reply_text : Reply → List ℕ
reply_text (Answered answer) = line_of answer
reply_text (Left leave) = []

-- what is written while these lines are run
abbrev pub written : List Exchange → List ℕ
written [] = []
written (one ∷ more) = reply_text one.reply ++ written more

-- what is written at the last: for the last of these lines, or before the first one
abbrev pub last_text : List ℕ → List Exchange → List ℕ
last_text greeting [] = greeting
last_text greeting (one ∷ more) = last_text (reply_text one.reply) more

-- the beginning of a text, of which no more than its last part is missing
pub record LacksOfLast (text last begun : List ℕ) : Type 0 where
  pub missing : List ℕ
  pub is : text ≡ begun ++ missing
  pub of_last : length missing ≤ length last

-- what was written of a greeting and of what these lines were answered: all, however that was left; or, where a write failed, what lacks of the last of it
pub data Tells (Writes : List ℕ → Type 0) (greeting : List ℕ) (done : List Exchange) : Result (Option Leave) SimFault → Type 0 where
  all : {left : Result (Option Leave) SimFault} → Writes (greeting ++ written done) → Tells Writes greeting done left
  not_all : (begun : List ℕ) → LacksOfLast (greeting ++ written done) (last_text greeting done) begun → Writes begun → Tells Writes greeting done (Err faults.Write)

-- the moments of what is asked these lines, and of its end
pub record IsSoundThroughout {P : Type 0} (told : P → Told) (first : Held P) (asked : List Exchange) (leave : Option Leave) (end : Held P) (last : Device) (v0 : View) (c : ℕ) : Type 0 where
  -- since each line
  pub each : (before after : List Exchange) (now : Held P) → asked ≡ before ++ after → AreAsked told first before None now → AreAsked told now after leave end
      → IsSoundSince (told (port_of now)) last v0 (accepted before) (accepted asked) (covered_by v0 [] c (effects before))
  -- an image that arose in a line is sound for what was accepted up to that line
  pub inside : (before after : List Exchange) (one : Exchange) (now next : Held P) → asked ≡ before ++ one ∷ after → AreAsked told first before None now → IsAsked told now next one.line one.reply one.effect → AreAsked told next after leave end
      → (image : Image) → last.moments (told (port_of now)).device.clock image
      → last.moments (told (port_of next)).device.clock image ⊎ Sound (told (port_of now)).spec v0 (accepted (before ++ one ∷ [])) (covered_by v0 [] c (effects before)) image

-- what was held is let go: a port alone stays as it is, and a desk finishes its port
abbrev pub IsLetGo : {P : Type 0} → (P → Told) → Held P → P → Type 0
IsLetGo told (Alone p) q = q ≡ p
IsLetGo told (AtDesk side) q = Finishes (told side.desk.port) (told q)

-- the lines of a stretch of a script were run on what was held at first, with so many files there, and what is held then stands so; and what was written is a greeting and what was answered
pub record Ran {P : Type 0} (told : P → Told) (first : Held P) (files : ℕ) (over : Stretch) (left : Result (Option Leave) SimFault) (Stands : Held P → Type 0) (greeting : List ℕ) (Writes : List ℕ → Type 0) : Type 0 where
  pub done : List Exchange
  pub end : Held P
  pub asks : AreAsked told first done (left_by left) end
  pub read : AreTheLines files over left (lines_of done)
  pub stands : Stands end
  pub text : Tells Writes greeting done left

-- a port in this desk is held
abbrev pub IsAtDesk : {P : Type 0} → DeskState P → Held P → Type 0
IsAtDesk desk (Alone p) = ⊥
IsAtDesk desk (AtDesk side) = side.desk ≡ desk

-- a port over an opening was held so at first, asked these lines, alone or in a desk, and then let go and dropped, and every moment since the opening was sound
pub record IsHeld {P : Type 0} (told : P → Told) (start : P → Held P) (opened : Told) (asked : List Exchange) (leave : Option Leave) (last : Device) : Type 0 where
  pub first : P
  pub end : Held P
  pub let_go : P
  pub as_opened : IsAsOpened opened (told first)
  pub at_first : IsIdle opened.device (told first).device
  pub fits : (v0 : View) (ys : List Item) (c : ℕ) → Fits opened v0 ys c → Fits (told first) v0 ys c
  pub asks : AreAsked told (start first) asked leave end
  pub lets_go : IsLetGo told end let_go
  pub drops : Ends (told let_go) last
  -- the end of the desk and the drop of its port are the end of what was held
  pub over : Ends (told (port_of end)) last
  pub was_honest : last.honest → opened.device.honest
  pub whole : last.honest → (v0 : View) (c : ℕ) → Fits opened v0 [] c → Leaves opened.device last (Sound opened.spec v0 (accepted asked) c)
  pub lines : last.honest → (v0 : View) (c : ℕ) → Fits opened v0 [] c → IsSoundThroughout told (start first) asked leave end last v0 c

-- the lines of a stretch of a script were run on a port over an opening, with so many files there, and the port then was dropped; and what was written is how it was opened and what it answered
pub record WasHeld {P : Type 0} (told : P → Told) (start : P → Held P) (opened : Told) (greets : ℕ → Answer) (files : ℕ) (over : Stretch) (left : Result (Option Leave) SimFault) (last : Device) (Writes : List ℕ → Type 0) : Type 0 where
  pub done : List Exchange
  pub held : IsHeld told start opened done (left_by left) last
  pub read : AreTheLines files over left (lines_of done)
  -- it was told how many entries the opening found
  pub text : Tells Writes (line_of (greets (told held.first).total)) done left

-- the same of a port of either kind over a store, which it left so
abbrev pub WasHeldOver : {S : Type 0} → Ghosts S → AnyOpening → ((P : Type 0) → P → Held P) → (ℕ → Answer) → ℕ → S → S → Stretch → Result (Option Leave) SimFault → (List ℕ → Type 0) → Type 0
WasHeldOver g (openings.File opening) start greets files old new over left Writes =
    WasHeld (file_told g pending.ghosts) (start _) (opened_told pending.ghosts opening (device_of g old)) greets files over left (device_of g new) Writes
WasHeldOver g (openings.Wrap opening) start greets files old new over left Writes =
    WasHeld (wrap_told g pending.ghosts) (start _) (wrap_opened_told pending.ghosts opening (device_of g old)) greets files over left (device_of g new) Writes
