-- How the lines of a script were read while they were run.
use Rattle.std.specs.Prelude.{◌≡◌, ℕ, Bool, Option, Some, None, List, Result, Ok, Err, All}
use Rattle.script_lines.specs.Lines.{IsOfFiles}
use Rattle.script_lines.specs.Reading.{Progress, progress, HasNext, HasEnded, HasStopped, AreGiven}
use Rattle.script_lines.specs.declared.line.Line.{Line}
use Rattle.script_lines.specs.declared.fault.ScriptFault.{ScriptFault}
use Rattle.script_runner.specs.Faults.{script_fault}
use Rattle.script_runner.specs.declared.fault.SimFault.{SimFault}
use Rattle.script_runner.specs.declared.fault.SimFault.TheVariants as faults
use Rattle.script_runner.specs.declared.reply.Leave.{Leave}

-- a stretch of a script, of which each line is for a desk, or any: how far the script was read before and after
pub record Stretch : Type 0 where
  pub of_desk : Bool
  pub from : Progress
  pub to : Progress

abbrev pub stretch : Bool → Progress → Progress → Stretch
stretch of_desk from to = record { of_desk = of_desk; from = from; to = to }

-- the first lines of a script, so many: its reader had these bytes, and has those left
abbrev pub first_lines : Bool → ℕ → Option (List ℕ) → Option (List ℕ) → Stretch
first_lines of_desk count had has = stretch of_desk (progress 0 had) (progress count has)

-- no more of a script was read
abbrev pub ReadsNothing : Stretch → Type 0
ReadsNothing over = over.to ≡ over.from

-- why no line comes: the script gives none; or the next one names a file that isn't there, and the fault has its number
pub data IsNoLine (of_desk : Bool) (files : ℕ) (from to : Progress) : SimFault → Type 0 where
  not_given : (why : ScriptFault) → HasStopped of_desk from to why → IsNoLine of_desk files from to (script_fault why)
  no_file : (line : Line) → HasNext of_desk from to line → (IsOfFiles files line → ⊥) → IsNoLine of_desk files from to (faults.BadCommand to.lines)

-- what comes next: the end of the script, a line that names no file that isn't there, or why there is none
abbrev pub ComesNext : Bool → ℕ → Progress → Progress → Result (Option Line) SimFault → Type 0
ComesNext of_desk files from to (Ok None) = HasEnded from to
ComesNext of_desk files from to (Ok (Some line)) = HasNext of_desk from to line × IsOfFiles files line
ComesNext of_desk files from to (Err fault) = IsNoLine of_desk files from to fault

-- why no line more was done: none comes; or what was answered at last couldn't be written
pub data IsBrokenOff (of_desk : Bool) (files : ℕ) (from to : Progress) : SimFault → Type 0 where
  no_line : {fault : SimFault} → IsNoLine of_desk files from to fault → IsBrokenOff of_desk files from to fault
  not_written : to ≡ from → IsBrokenOff of_desk files from to faults.Write

-- what was read after the lines that were done: the end of the script, nothing, or why no line more was done
abbrev pub EndsSo : Bool → ℕ → Progress → Progress → Result (Option Leave) SimFault → Type 0
EndsSo of_desk files from to (Ok None) = HasEnded from to
EndsSo of_desk files from to (Ok (Some leave)) = to ≡ from
EndsSo of_desk files from to (Err fault) = IsBrokenOff of_desk files from to fault

-- these are the lines of the stretch, in their order: each that the script gives there was done once, and no other
pub record AreTheLines (files : ℕ) (over : Stretch) (left : Result (Option Leave) SimFault) (done : List Line) : Type 0 where
  pub last : Progress
  pub read : AreGiven over.of_desk over.from done last
  pub each : All (IsOfFiles files) done
  pub ends : EndsSo over.of_desk files last over.to left
