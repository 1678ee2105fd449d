-- A trace told in numbers.
use Rattle.std.specs.Prelude.{ℕ, ◌+◌, ◌*◌, length, ◌⊎◌, Result, Ok, Err}
use Rattle.trace_store.specs.Disk.{Image}
use Rattle.recovery.specs.CallCounts.{most_in}
use Rattle.recovery.specs.Outlined.{Outlines}
use Rattle.recovery.specs.Stores.{readings}
use Rattle.recovery.specs.declared.outlined.Outlined.{Outlined}
use Rattle.recovery.specs.declared.fault.RecoverFault.{RecoverFault}
use Rattle.commands.specs.Files.{most_to_tell}
use Rattle.foreign_files.specs.Standing.{IsStanding}
use Rattle.foreign_files.specs.declared.standing.Standing.TheVariants as standings
use Rattle.trace_summary.specs.declared.info.Info.{Info}
use Rattle.trace_reader.specs.Reading.{IsWhyNotRead}
use Rattle.trace_summary.specs.Summaries.{IsJudged}
use Rattle.trace_reader.specs.declared.fault.ReadFault.{ReadFault}
use Rattle.faults.specs.Faults.{read_fault}
use Rattle.faults.specs.declared.complaint.Complaint.{Complaint}
use Rattle.script_runner.specs.declared.fault.SimFault.{SimFault}
use Rattle.commands.specs.Telling.{IsOfMemory, IsOfWriter}

-- what a reading found: a trace's files, and what they are together; or why they aren't read
abbrev pub IsGathered : Image → Result Info ReadFault → Type 0
IsGathered image (Ok info) = IsStanding standings.Ours image × IsJudged image info.outlined
IsGathered image (Err fault) = IsWhyNotRead fault image

-- the most device calls to read each file once
abbrev pub most_to_sum : Image → ℕ
most_to_sum image = 3 * length image + most_in image

-- the most to gather what they hold: files that are one whole trace are read once
abbrev pub most_judged : Result Outlined RecoverFault → Image → ℕ
most_judged (Ok outlined) image = most_to_sum image
most_judged (Err cause) image = 5 * most_to_sum image

abbrev pub most_to_gather : Result Info ReadFault → Image → ℕ
most_to_gather (Ok info) image = most_judged info.outlined image
most_to_gather (Err fault) image = 5 * most_to_sum image

-- and to tell it
abbrev pub most_to_inform : Result Unit Complaint → Image → ℕ
most_to_inform (Ok done) image = most_to_sum image
most_to_inform (Err complaint) image = 5 * most_to_sum image + most_to_tell image

-- how it ended: its files are one whole trace, and that was told; or why they aren't; or it couldn't be told
pub data IsInfo (Told : SimFault → Complaint → Type 0) (image : Image) : Result Unit Complaint → Type 0 where
  whole : (r : Outlined) → IsStanding standings.Ours image → Outlines (readings image) r → IsInfo Told image (Ok tt)
  refused : (fault : ReadFault) (complaint : Complaint) → IsWhyNotRead fault image → Told (read_fault fault) complaint → IsInfo Told image (Err complaint)
  not_told : (complaint : Complaint) → IsOfWriter complaint ⊎ IsOfMemory complaint → IsInfo Told image (Err complaint)
