-- How what a call answered is told.
use Rattle.std.specs.Prelude.{ℕ, Bool, true, false, length, Result, Ok, Err}
use Rattle.trace_port.specs.declared.fault.PortFault.{PortFault}
use Rattle.intake.specs.declared.fault.EmitFault.{EmitFault}
use Rattle.intake.specs.declared.offer.Offer.{Offer}
use Rattle.tracees.specs.declared.receipt.HandFault.{HandFault}
use Rattle.tracees.specs.declared.receipt.HandFault.TheVariants as hands
use Rattle.tracees.specs.declared.receipt.Receipt.{Receipt}
use Rattle.script_runner.specs.declared.answer.Answer.{Answer}
use Rattle.script_runner.specs.declared.answer.Answer.TheVariants as answers
use Rattle.script_runner.specs.declared.reply.Origin.{Origin}
use Rattle.script_runner.specs.declared.reply.Origin.TheVariants.{Created, Resumed}
use Rattle.script_runner.specs.declared.refusal.HandRefusal.{HandRefusal}
use Rattle.script_runner.specs.declared.refusal.HandRefusal.TheVariants as handing
use Rattle.script_runner.specs.declared.refusal.Refusal.TheVariants.{Port, Emit, Hand}

-- an opening of a trace that has so many entries
abbrev pub opened_answer : Origin → ℕ → Answer
opened_answer Created accepted = answers.Created
opened_answer Resumed accepted = answers.Resumed accepted

-- an accept
abbrev pub put_answer : Result ℕ PortFault → Answer
put_answer (Ok number) = answers.Entry number
put_answer (Err fault) = answers.Refused (Port fault)

-- a flush
abbrev pub flush_answer : Result ℕ PortFault → Answer
flush_answer (Ok covered) = answers.Covered covered
flush_answer (Err fault) = answers.Refused (Port fault)

-- a seal
abbrev pub seal_answer : Result Unit PortFault → Answer
seal_answer (Ok done) = answers.Sealed
seal_answer (Err fault) = answers.Refused (Port fault)

-- a tick
abbrev pub tick_answer : Result Bool PortFault → Answer
tick_answer (Ok true) = answers.Cut
tick_answer (Ok false) = answers.Open
tick_answer (Err fault) = answers.Refused (Port fault)

-- an event
abbrev pub emit_answer : Result Offer EmitFault → Answer
emit_answer (Ok offer) = answers.Offer offer
emit_answer (Err fault) = answers.Refused (Emit fault)

-- of a receipt inside a refusal, how many entries were moved
abbrev pub hand_refusal : HandFault → HandRefusal
hand_refusal (hands.Port fault receipt) = handing.Port fault (length receipt.entries.items)
hand_refusal hands.NoMemory = handing.NoMemory
hand_refusal hands.Stranger = handing.Stranger

-- a hand-over
abbrev pub hand_answer : Result Receipt HandFault → Answer
hand_answer (Ok receipt) = answers.Receipt receipt.first (length receipt.entries.items)
hand_answer (Err fault) = answers.Refused (Hand (hand_refusal fault))

-- a flush for a tracee
abbrev pub flush_for_answer : Result Receipt HandFault → Answer
flush_for_answer (Ok receipt) = answers.CoveredReceipt receipt.first (length receipt.entries.items) receipt.covered
flush_for_answer (Err fault) = answers.Refused (Hand (hand_refusal fault))
