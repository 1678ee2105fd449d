-- What a line of a script asks of what is held, and what may come of it.
use Rattle.std.specs.Prelude.{ℕ, Bool, false, [], Result}
use Rattle.entry_codec.specs.Seen.{view}
use Rattle.entry_codec.specs.declared.model.Entry.{Entry as Stored}
use Rattle.script_lines.specs.declared.line.Unsynced.{Unsynced}
use Rattle.trace_port.specs.Port.{Told}
use Rattle.trace_port.specs.Ticks.{due, ticked}
use Rattle.trace_port.specs.Calls.{taken, went}
use Rattle.trace_port.specs.PortCalls.{Accepts, Flushes, Seals, Ticks, Abandons}
use Rattle.trace_port.specs.declared.fault.PortFault.{PortFault}
use Rattle.trace_port.specs.Effects.{Effect, effect, no_effect}
use Rattle.script_lines.specs.declared.line.Line.{Line}
use Rattle.script_lines.specs.declared.line.Line.TheVariants as lines
use Rattle.script_lines.specs.declared.desk_line.DeskLine.{DeskLine}
use Rattle.script_runner.specs.declared.answer.Answer.{Answer}
use Rattle.script_runner.specs.declared.answer.Answer.TheVariants as answers
use Rattle.script_runner.specs.declared.reply.Leave.TheVariants.{Abandoned, Closed, Crashed}
use Rattle.script_runner.specs.declared.reply.Reply.{Reply}
use Rattle.script_runner.specs.declared.reply.Reply.TheVariants.{Told as Answered, Left}
use Rattle.script_runner.specs.Answers.{put_answer, flush_answer, seal_answer, tick_answer}
use Rattle.script_runner.specs.Sides.{DeskSide, Held, Alone, AtDesk, port_of, with_port, new_side}
use Rattle.script_runner.specs.DeskLines.{IsAskedAtDesk}

-- a line that is for a port, in a desk or not
abbrev pub IsOfPort : Line → Type 0
IsOfPort lines.Flush = Unit {0}
IsOfPort lines.Seal = Unit {0}
IsOfPort (lines.Tick now) = Unit {0}
IsOfPort lines.Abandon = Unit {0}
IsOfPort lines.Close = Unit {0}
IsOfPort (lines.Crash unsynced) = Unit {0}
IsOfPort _ = ⊥

-- a line for a port that isn't in a desk
abbrev pub IsOfPortAlone : Line → Type 0
IsOfPortAlone (lines.Put entry) = Unit {0}
IsOfPortAlone lines.Desk = Unit {0}
IsOfPortAlone line = IsOfPort line

-- a line for a port in a desk
abbrev pub IsOfDesk : Line → Type 0
IsOfDesk (lines.AtDesk line) = Unit {0}
IsOfDesk line = IsOfPort line

-- a line that isn't for what is held
abbrev pub IsOutOfOrder : {P : Type 0} → Held P → Line → Type 0
IsOutOfOrder (Alone p) line = IsOfPortAlone line → ⊥
IsOutOfOrder (AtDesk side) line = IsOfDesk line → ⊥

-- what is held is asked what the line says, and nothing else: how it replies, and what its port accepted and covered then
pub data IsAsked {P : Type 0} (told : P → Told) : Held P → Held P → Line → Reply → Effect → Type 0 where
  puts : {p q : P} {entry : Stored} (result : Result ℕ PortFault) → Accepts (told p) (told q) (view entry) result
      → IsAsked told (Alone p) (Alone q) (lines.Put entry) (Answered (put_answer result)) (effect (taken (view entry) result) false)
  flushes : {old : Held P} {q : P} (result : Result ℕ PortFault) → Flushes (told (port_of old)) (told q) result
      → IsAsked told old (with_port old q) lines.Flush (Answered (flush_answer result)) (effect [] (went result))
  seals : {old : Held P} {q : P} (result : Result Unit PortFault) → Seals (told (port_of old)) (told q) result
      → IsAsked told old (with_port old q) lines.Seal (Answered (seal_answer result)) (effect [] (went result))
  ticks : {old : Held P} {q : P} {now : ℕ} (result : Result Bool PortFault) → Ticks (told (port_of old)) (told q) now result
      → IsAsked told old (with_port old q) (lines.Tick now) (Answered (tick_answer result)) (effect (ticked (due (told (port_of old)) now) result) false)
  abandons : {old : Held P} {q : P} → Abandons (told (port_of old)) (told q) → IsAsked told old (with_port old q) lines.Abandon (Left Abandoned) no_effect
  crashes : {old : Held P} {q : P} {unsynced : Unsynced} → Abandons (told (port_of old)) (told q) → IsAsked told old (with_port old q) (lines.Crash unsynced) (Left (Crashed unsynced)) no_effect
  -- its drop is yet to come
  closes : {old : Held P} → IsAsked told old old lines.Close (Left Closed) no_effect
  comes_to_desk : {p : P} → IsAsked told (Alone p) (AtDesk (new_side p)) lines.Desk (Answered answers.Done) no_effect
  acts_there : {old new : DeskSide P} {line : DeskLine} {answer : Answer} {did : Effect} → IsAskedAtDesk told old new line answer did
      → IsAsked told (AtDesk old) (AtDesk new) (lines.AtDesk line) (Answered answer) did
  out_of_order : {old : Held P} {line : Line} → IsOutOfOrder old line → IsAsked told old old line (Answered answers.OutOfOrder) no_effect
