-- What a line of a script may say.
use Rattle.std.specs.Prelude.{◌≡◌, ℕ, ◌≤◌, ◌<◌, ⊤, Vec}
use Rattle.std.specs.declared.alloc.Global.{Global}
use Rattle.entry_codec.specs.Entries.{IsLawful}
use Rattle.entry_codec.specs.Seen.{view}
use Rattle.stores.specs.declared.pick.Pick.{Pick}
use Rattle.stores.specs.declared.pick.Pick.TheVariants as picks
use Rattle.entry_codec.specs.declared.model.Entry.{Entry as Stored}
use Rattle.trace_message.specs.Events.{event_view}
use Rattle.trace_message.specs.declared.event.Event.{Event}
use Rattle.script_lines.specs.declared.desk_line.TraceeLine.TheVariants as tracee_lines
use Rattle.script_lines.specs.declared.line.Unsynced.{Unsynced}
use Rattle.script_lines.specs.declared.line.Unsynced.TheVariants as unsynced
use Rattle.script_lines.specs.declared.line.Line.{Line}
use Rattle.script_lines.specs.declared.line.Line.TheVariants as lines
use Rattle.script_lines.specs.declared.desk_line.DeskLine.{DeskLine}
use Rattle.script_lines.specs.declared.desk_line.DeskLine.TheVariants as desk_lines

-- a tracee's number is at most 999
abbrev pub IsNumbered : DeskLine → Type 0
IsNumbered (desk_lines.Tracee number capacity drop_limit flags) = number ≤ 999
IsNumbered (desk_lines.OfTracee number line) = number ≤ 999
IsNumbered _ = ⊤

-- a store can have so many files, and what is put may be stored
abbrev pub IsWithinLimits : Line → Type 0
IsWithinLimits (lines.Store files) = (1 ≤ files) × (files ≤ 1001)
IsWithinLimits (lines.Put entry) = IsLawful (view entry)
IsWithinLimits (lines.AtDesk line) = IsNumbered line
IsWithinLimits _ = ⊤

-- a line of a script for a desk alone
abbrev pub IsOfRecord : Line → Type 0
IsOfRecord lines.Flush = Unit {0}
IsOfRecord lines.Seal = Unit {0}
IsOfRecord (lines.Tick now) = Unit {0}
IsOfRecord lines.Abandon = Unit {0}
IsOfRecord (lines.AtDesk line) = Unit {0}
IsOfRecord _ = ⊥

-- the line names no file, or one of so many
abbrev pub IsOfFiles : ℕ → Line → Type 0
IsOfFiles files (lines.Bytes file bytes) = file < files
IsOfFiles files _ = ⊤

-- what a crash is asked to leave of what is unsynced
abbrev pub pick_of : Unsynced → Pick
pick_of unsynced.Kept = picks.Kept
pick_of (unsynced.Fill byte longest) = picks.Fill byte longest

-- two lines say the same to a desk: an event is seen as data
abbrev pub IsSameAtDesk : DeskLine → DeskLine → Type 0
IsSameAtDesk (desk_lines.OfTracee number (tracee_lines.Emit event)) other = (e : Event) × (other ≡ desk_lines.OfTracee number (tracee_lines.Emit e)) × (event_view e ≡ event_view event)
IsSameAtDesk line other = other ≡ line

-- two lines say the same: bytes are seen as such, wherever they lie
abbrev pub SaysSame : Line → Line → Type 0
SaysSame (lines.Bytes file bytes) other = (kept : Vec ℕ Global) × (other ≡ lines.Bytes file kept) × (kept.items ≡ bytes.items)
SaysSame (lines.Put entry) other = (e : Stored) × (other ≡ lines.Put e) × (view e ≡ view entry)
SaysSame (lines.AtDesk line) other = (it : DeskLine) × (other ≡ lines.AtDesk it) × IsSameAtDesk line it
SaysSame line other = other ≡ line
