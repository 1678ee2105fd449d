-- The texts of answers.
use Rattle.std.specs.Prelude.{ℕ, ◌+◌, ◌/◌, ◌%◌, Option, Some, None, List, [], ◌∷◌, ◌++◌, nat_lt, if◌then◌else◌, codes}
use Rattle.std.specs.Fmt.{decimal}
use Rattle.recovery.specs.declared.fault.RecoverFault.{RecoverFault}
use Rattle.recovery.specs.declared.fault.RecoverFault.TheVariants as recovering
use Rattle.stores.specs.declared.pick.CrashFault.TheVariants as crashing
use Rattle.trace_port.specs.declared.create.CreateFault.TheVariants as creating
use Rattle.trace_port.specs.declared.resume.ResumeFault.TheVariants as resuming
use Rattle.trace_port.specs.declared.fault.PortFault.{PortFault}
use Rattle.trace_port.specs.declared.fault.PortFault.TheVariants as porting
use Rattle.intake.specs.declared.fault.EmitFault.TheVariants as emitting
use Rattle.intake.specs.declared.fault.TraceeFault.TheVariants as making
use Rattle.intake.specs.declared.offer.Offer.TheVariants as offers
use Rattle.script_runner.specs.declared.refusal.HandRefusal.TheVariants as handing
use Rattle.script_runner.specs.declared.refusal.Refusal.{Refusal}
use Rattle.script_runner.specs.declared.refusal.Refusal.TheVariants as refusals
use Rattle.script_runner.specs.declared.answer.Answer.{Answer}
use Rattle.script_runner.specs.declared.answer.Answer.TheVariants as answers
use Rattle.script_runner.specs.declared.reply.Origin.{Origin}
use Rattle.script_runner.specs.declared.reply.Origin.TheVariants.{Created, Resumed}

abbrev pub recover_text : RecoverFault → List ℕ
recover_text (recovering.Damaged file place) = codes "1 Damaged file " ++ decimal file ++ codes " at " ++ decimal place
recover_text recovering.Mixed = codes "2 Mixed"
recover_text recovering.Sequence = codes "3 Sequence"
recover_text recovering.Device = codes "4 Device"
recover_text recovering.NoMemory = codes "5 NoMemory"

abbrev pub port_text : PortFault → List ℕ
port_text porting.Device = codes "1 Device"
port_text porting.Broken = codes "2 Broken"
port_text porting.Sealed = codes "3 Sealed"
port_text porting.CountFull = codes "4 CountFull"
port_text porting.FileFull = codes "5 FileFull"

-- the number and the name of what was refused
abbrev pub refusal_text : Refusal → List ℕ
refusal_text refusals.Device = codes "1 Device"
refusal_text refusals.NoMemory = codes "1 NoMemory"
refusal_text (refusals.Crash crashing.NotImage) = codes "1 NotImage"
refusal_text (refusals.Crash crashing.NoMemory) = codes "2 NoMemory"
refusal_text (refusals.Recover fault) = recover_text fault
refusal_text (refusals.Create creating.NotBlank) = codes "1 NotBlank"
refusal_text (refusals.Create creating.BadSpec) = codes "2 BadSpec"
refusal_text (refusals.Create creating.Device) = codes "3 Device"
refusal_text (refusals.Create creating.NoMemory) = codes "4 NoMemory"
refusal_text (refusals.Resume resuming.Sealed) = codes "1 Sealed"
refusal_text (refusals.Resume resuming.Blank) = codes "2 Blank"
refusal_text (refusals.Resume resuming.WrongKind) = codes "3 WrongKind"
refusal_text (refusals.Resume resuming.BadSpec) = codes "4 BadSpec"
refusal_text (refusals.Resume (resuming.Recover cause)) = codes "5 Recover " ++ recover_text cause
refusal_text (refusals.Port fault) = port_text fault
refusal_text (refusals.Tracee making.BadSpec) = codes "1 BadSpec"
refusal_text (refusals.Tracee making.NoMemory) = codes "2 NoMemory"
refusal_text (refusals.Emit emitting.TooLong) = codes "1 TooLong"
refusal_text (refusals.Emit emitting.TooDeep) = codes "2 TooDeep"
refusal_text (refusals.Emit emitting.CountFull) = codes "3 CountFull"
refusal_text (refusals.Emit emitting.NoMemory) = codes "4 NoMemory"
refusal_text (refusals.Hand (handing.Port fault moved)) = codes "1 Port " ++ port_text fault ++ codes " moved " ++ decimal moved
refusal_text (refusals.Hand handing.NoMemory) = codes "2 NoMemory"
refusal_text (refusals.Hand handing.Stranger) = codes "3 Stranger"

abbrev pub answer_text : Answer → List ℕ
answer_text answers.Done = codes "ok"
answer_text answers.OutOfOrder = codes "out of order"
answer_text (answers.Entry number) = codes "entry " ++ decimal number
answer_text answers.Created = codes "created"
answer_text (answers.Resumed count) = codes "resumed " ++ decimal count
answer_text (answers.Covered count) = codes "covered " ++ decimal count
answer_text answers.Sealed = codes "sealed"
answer_text (answers.SealedAt count) = codes "sealed " ++ decimal count
answer_text (answers.KeptAt count) = codes "kept " ++ decimal count
answer_text answers.Cut = codes "cut"
answer_text answers.Open = codes "open"
answer_text answers.Closed = codes "closed"
answer_text (answers.Offer offers.Kept) = codes "kept"
answer_text (answers.Offer offers.Dropped) = codes "dropped"
answer_text (answers.Offer offers.Unasked) = codes "unasked"
answer_text (answers.Receipt first count) = codes "receipt " ++ decimal first ++ codes " " ++ decimal count
answer_text (answers.CoveredReceipt first count covered) = codes "receipt " ++ decimal first ++ codes " " ++ decimal count ++ codes " covered " ++ decimal covered
answer_text (answers.Counts counts) =
    codes "offered " ++ decimal counts.offered ++ codes " waiting " ++ decimal counts.waiting ++ codes " unsent " ++ decimal counts.unsent
    ++ codes " handed " ++ decimal counts.handed ++ codes " lost " ++ decimal counts.lost
answer_text (answers.Refused refusal) = codes "refused " ++ refusal_text refusal

-- an answer and a line feed
abbrev pub line_of : Answer → List ℕ
line_of answer = answer_text answer ++ 10 ∷ []

-- the digit of a number below 16, in lower case
abbrev pub digit_of : ℕ → ℕ
digit_of number = if nat_lt number 10 then 48 + number else 87 + number

-- a file's first byte in two hexadecimal digits, and a line feed
abbrev pub gate_text : Option ℕ → List ℕ
gate_text None = codes "--\n"
gate_text (Some gate) = digit_of (gate / 16) ∷ digit_of (gate % 16) ∷ 10 ∷ []

-- the line of a file with its length, up to its first byte
abbrev pub state_head : ℕ → ℕ → List ℕ
state_head file length = codes "file " ++ decimal file ++ codes " length " ++ decimal length ++ codes " gate "

-- the whole line
abbrev pub state_text : ℕ → ℕ → Option ℕ → List ℕ
state_text file length gate = state_head file length ++ gate_text gate

-- what is answered once a port is held that has accepted so many entries
abbrev pub greeting : Origin → ℕ → Answer
greeting Created accepted = answers.Done
greeting Resumed accepted = answers.Resumed accepted
