-- What a line of a script does to the store in memory while no port is held.
use Rattle.std.specs.Prelude.{◌≡◌, ◌⊎◌, ◌≤◌, ◌<◌, ◌+◌, ◌-◌, ◌*◌, ◌^◌, min, ℕ, Bool, Option, Some, None, List, [], ◌∷◌, ◌++◌, length, set, replicate, Result, Ok, Err, false}
use Rattle.std.specs.Io.KnownBytes.{Appends, Keeps}
use Rattle.std.specs.declared.vec.Vec.{Vec}
use Rattle.std.specs.declared.alloc.Global.{Global}
use Rattle.trace_store.specs.Disk.{Image}
use Rattle.trace_store.specs.Moments.{Rose, LeavesOnly}
use Rattle.stores.specs.MemStore.{made_of, honest_of, disk_of, reads_of, images_of, moments_of, clock_of, failures_of, fuse_of, SameButFuse, IsPossible, IsSettled}
use Rattle.stores.specs.Crashes.{image_of}
use Rattle.stores.specs.declared.fuse.Fuse.TheVariants.{Whole, After, Once}
use Rattle.stores.specs.declared.mem_store.MemStore.{MemStore}
use Rattle.stores.specs.declared.pick.CrashFault.{CrashFault}
use Rattle.stores.specs.declared.pick.CrashFault.TheVariants.{NotImage}
use Rattle.stores.specs.contracts.mem_store.MemStoreStore.TheImpl as mem
use Rattle.trace_store.specs.Device.{OnlyReads, Device, device_of, Leaves}
use Rattle.segment.specs.Specification.{Spec, File, Wrap, Timed}
use Rattle.recovery.specs.Views.{empty}
use Rattle.recovery.specs.Stores.{Chain, readings, turns, IsBlank, IsStore}
use Rattle.recovery.specs.CallCounts.{calls_in, most_in}
use Rattle.recovery.specs.Wiping.{IsWiped, IsWiping, wiping_calls}
use Rattle.trace_port.specs.declared.create.CreateFault.TheVariants.{BadSpec}
use Rattle.trace_port.specs.declared.resume.ResumeFault.TheVariants as resuming
use Rattle.trace_port.specs.Openings.{ReadsAlike, TellsCreate, TellsResume, IsBadLimit, looks_in}
use Rattle.trace_port.specs.Creations.{IsNotCreated}
use Rattle.trace_port.specs.Resumptions.{IsNotResumed}
use Rattle.trace_port.specs.Sound.{ReadsAs}
use Rattle.wrap_port.specs.Resumptions.{IsNotResumed as IsNoWrapResumed}
use Rattle.wrap_port.specs.HalfDone.{finishing_calls, clock_finished}
use Rattle.script_lines.specs.declared.line.Line.{Line}
use Rattle.script_lines.specs.declared.line.Line.TheVariants as lines
use Rattle.script_lines.specs.declared.line.Unsynced.{Unsynced}
use Rattle.script_lines.specs.Lines.{pick_of, IsOfFiles}
use Rattle.script_lines.specs.Reading.{Progress, HasNext, HasEnded}
use Rattle.script_runner.specs.Sides.{Alone}
use Rattle.script_runner.specs.Read.{Stretch, stretch, first_lines, ReadsNothing, IsNoLine}
use Rattle.script_runner.specs.Held.{WasHeldOver}
use Rattle.trace_port.specs.Limits.{greatest_limit}
use Rattle.script_runner.specs.PortOpenings.{first_told, GoesOnOrBegins, IsNoSpec}
use Rattle.simulator.specs.Stored.{TellsStore, TellsFiles, TellsRefusal, BeginsSo, IsListedInPart}
use Rattle.script_runner.specs.Texts.{greeting, line_of}
use Rattle.script_runner.specs.declared.answer.Answer.TheVariants as answers
use Rattle.script_runner.specs.declared.fault.SimFault.{SimFault}
use Rattle.script_runner.specs.declared.fault.SimFault.TheVariants as faults
use Rattle.script_runner.specs.declared.opening.AnyOpening.{AnyOpening}
use Rattle.script_runner.specs.declared.refusal.Refusal.{Refusal}
use Rattle.script_runner.specs.declared.refusal.Refusal.TheVariants as refusals
use Rattle.script_runner.specs.declared.reply.Leave.{Leave}
use Rattle.script_runner.specs.declared.reply.Leave.TheVariants as leaving
use Rattle.script_runner.specs.declared.reply.Origin.{Origin}
use Rattle.script_runner.specs.declared.reply.Origin.TheVariants.{Created, Resumed}
use Rattle.script_runner.specs.declared.reply.Stop.{Stop}
use Rattle.script_runner.specs.declared.reply.Stop.TheVariants as stops

-- a store in memory as a device
abbrev pub device : MemStore → Device
device m = device_of mem.ghosts m

-- a store that holds these bytes, on which no call was made yet, and which has no fuse
pub record IsNew (m : MemStore) (image : Image) : Type 0 where
  pub settled : IsSettled m image
  pub fuse : fuse_of m ≡ Whole
  pub clock : clock_of m ≡ 0
  pub failures : failures_of m ≡ 0

-- each moment of making a port leaves what was there; a creation over a blank store also an empty trace, and a resumption what reads alike
abbrev pub LeavesSo : Origin → Spec → MemStore → MemStore → Type 0
LeavesSo Created spec old new =
    Leaves (device old) (device new) (λ image. (device old).images image ⊎ ReadsAs spec empty false image) × ((IsBlank (readings (reads_of old)) → ⊥) → Leaves (device old) (device new) (device old).images)
LeavesSo Resumed spec old new = Leaves (device old) (device new) (λ image. (device old).images image ⊎ ReadsAlike (reads_of old) image)

-- a run that a fault ended, as what came of its line
abbrev pub ended_so : Result (Option Leave) SimFault → Result (Option Leave) Stop
ended_so (Ok left) = Ok left
ended_so (Err fault) = Err (stops.Failed fault)

-- a crash left what was picked of the store and is answered of, or it can't leave that and the store stays as it is
pub data Crashes (unsynced : Unsynced) (old new : MemStore) : List ℕ → Type 0 where
  leaves : IsPossible (pick_of unsynced) old → IsSettled new (image_of (pick_of unsynced) (disk_of old)) → fuse_of new ≡ Whole → clock_of new ≡ clock_of old → failures_of new ≡ failures_of old → Crashes unsynced old new (line_of answers.Done)
  refuses : (fault : CrashFault) → (fault ≡ NotImage → IsPossible (pick_of unsynced) old → ⊥) → new ≡ old → Crashes unsynced old new (line_of (answers.Refused (refusals.Crash fault)))

-- how it is answered that a port was left, or that there is none: the text, and what is left of the store
abbrev pub IsOver : Result (Option Leave) Stop → MemStore → MemStore → List ℕ → Type 0
IsOver (Ok (Some leaving.Abandoned)) old new text = (new ≡ old) × (text ≡ line_of answers.Done)
IsOver (Ok (Some leaving.Closed)) old new text = (new ≡ old) × (text ≡ line_of answers.Closed)
IsOver (Ok (Some (leaving.Crashed unsynced))) old new text = Crashes unsynced old new text
IsOver (Ok None) old new text = (new ≡ old) × (text ≡ [])
IsOver (Err (stops.Refused refusal)) old new text = (new ≡ old) × (text ≡ line_of (answers.Refused refusal))
IsOver (Err (stops.Failed fault)) old new text = ⊥

-- what is answered of a line once its port is no more: how that was left, all of it or, where a write fails, a part; or nothing more, where a fault ended the run
pub data IsFinished (old new : MemStore) (Writes : List ℕ → Type 0) : Result (Option Leave) Stop → Result Unit SimFault → Type 0 where
  told : {left : Result (Option Leave) Stop} {text : List ℕ} → IsOver left old new text → Writes text → IsFinished old new Writes left (Ok tt)
  not_told : {left : Result (Option Leave) Stop} {text begun : List ℕ} → IsOver left old new text → BeginsSo text begun → Writes begun → IsFinished old new Writes left (Err faults.Write)
  failed : {fault : SimFault} → new ≡ old → Writes [] → IsFinished old new Writes (Err (stops.Failed fault)) (Err fault)

-- the calls of a look at its files changed nothing
abbrev pub OnlyLooked : MemStore → MemStore → Type 0
OnlyLooked old new = OnlyReads made_of honest_of clock_of reads_of images_of moments_of old new

-- those of a line are at most so many
pub record LooksBy (most : ℕ) (old new : MemStore) : Type 0 where
  pub only_looked : OnlyLooked old new
  pub at_most : clock_of new ≤ clock_of old + most

-- each file was wiped by as many calls as that takes, none of which failed; the clock stays at its last value
pub record WipesBy (old new : MemStore) : Type 0 where
  pub calls : min (clock_of new) (2 ^ 64 - 1) ≡ min (clock_of old + wiping_calls (reads_of old)) (2 ^ 64 - 1)
  pub no_failure : failures_of new ≡ failures_of old

-- a line for a store while no port is held
abbrev pub IsOfStore : Line → Type 0
IsOfStore (lines.Store files) = Unit {0}
IsOfStore (lines.Bytes file bytes) = Unit {0}
IsOfStore (lines.Fuse calls) = Unit {0}
IsOfStore (lines.FailOnce calls) = Unit {0}
IsOfStore (lines.Crash unsynced) = Unit {0}
IsOfStore lines.Files = Unit {0}
IsOfStore lines.List = Unit {0}
IsOfStore lines.Wipe = Unit {0}
IsOfStore _ = ⊥

-- what a line that makes no port does to the store, and what is written of it
pub data Does (old new : MemStore) : Line → List ℕ → Type 0 where
  blanks : {files : ℕ} → IsNew new (replicate files []) → Does old new (lines.Store files) (line_of answers.Done)
  no_memory : {files : ℕ} → new ≡ old → Does old new (lines.Store files) (line_of (answers.Refused refusals.NoMemory))
  holds : {file : ℕ} {bytes : Vec ℕ Global} → IsNew new (set (reads_of old) file bytes.items) → Does old new (lines.Bytes file bytes) (line_of answers.Done)
  holds_not : {file : ℕ} {bytes : Vec ℕ Global} (refusal : Refusal) → LooksBy (2 * length (reads_of old)) old new → TellsRefusal (failures_of old) (failures_of new) refusal → Does old new (lines.Bytes file bytes) (line_of (answers.Refused refusal))
  fuses : {calls : ℕ} → fuse_of new ≡ After (clock_of old) calls → SameButFuse old new → Does old new (lines.Fuse calls) (line_of answers.Done)
  fails_once : {calls : ℕ} → fuse_of new ≡ Once (clock_of old) calls → SameButFuse old new → Does old new (lines.FailOnce calls) (line_of answers.Done)
  crashes : {unsynced : Unsynced} {text : List ℕ} → Crashes unsynced old new text → Does old new (lines.Crash unsynced) text
  lists : {text : List ℕ} → TellsStore (reads_of old) (failures_of old) (failures_of new) text → LooksBy (most_in (reads_of old)) old new → Does old new lines.List text
  tells_files : {text : List ℕ} → TellsFiles (reads_of old) (failures_of old) (failures_of new) text → LooksBy (2 * length (reads_of old)) old new → Does old new lines.Files text
  wipes : WipesBy old new → IsWiped (reads_of old) (reads_of new) → ((c : Image) → images_of new c → IsBlank (readings c)) → LeavesOnly clock_of moments_of old new (IsWiping (images_of old)) → Does old new lines.Wipe (line_of answers.Done)
  wipes_not : Rose (failures_of old) (failures_of new) → clock_of new ≤ clock_of old + 7 * length (reads_of old) → LeavesOnly clock_of moments_of old new (IsWiping (images_of old)) → Does old new lines.Wipe (line_of (answers.Refused refusals.Device))
  out_of_order : {line : Line} → (IsOfStore line → ⊥) → new ≡ old → Does old new line (line_of answers.OutOfOrder)

-- what such a line does where a fault ends it: what it does anyway, and of the answer a part is written; or it only looked, and listed a part of what is there
pub data Fails (old new : MemStore) (Writes : List ℕ → Type 0) : Line → SimFault → Type 0 where
  answers_in_part : {line : Line} {text begun : List ℕ} → Does old new line text → BeginsSo text begun → Writes begun → Fails old new Writes line faults.Write
  lists_in_part : {fault : SimFault} → IsListedInPart (reads_of old) (failures_of old) (failures_of new) Writes fault → LooksBy (most_in (reads_of old)) old new → Fails old new Writes lines.List fault

-- what comes of a line that makes no port
abbrev pub DoesOrFails : Line → MemStore → MemStore → Result Unit SimFault → (List ℕ → Type 0) → Type 0
DoesOrFails line old new (Ok done) Writes = (text : List ℕ) × Does old new line text × Writes text
DoesOrFails line old new (Err fault) Writes = Fails old new Writes line fault

-- what comes of opening a port: there is one, by so many device calls, none of which failed; or it is refused by such a fault, and what that says of the store and of the device calls that failed holds
pub data ComesOf {Fault : Type 0} (name : Fault → Refusal) (Tells : ℕ → ℕ → Fault → Type 0) (Why : Fault → Type 0) (Calls : Type 0) (origin : Origin) (spec : Spec) (limit : ℕ) (old new : MemStore) : Result (Option (AnyOpening × Origin)) Refusal → Type 0 where
  opens : {opening : AnyOpening} → GoesOnOrBegins (reads_of old) (first_told opening (device new)) spec limit origin → LeavesSo origin spec old new → failures_of new ≡ failures_of old → Calls
      → ComesOf name Tells Why Calls origin spec limit old new (Ok (Some (opening, origin)))
  opens_not : {fault : Fault} → LeavesSo origin spec old new → Why fault → Tells (failures_of old) (failures_of new) fault → ComesOf name Tells Why Calls origin spec limit old new (Err (name fault))

-- of a creation, which is refused for what is asked only where that is bad
abbrev pub Begins : Type 0 → Spec → ℕ → MemStore → MemStore → Result (Option (AnyOpening × Origin)) Refusal → Type 0
Begins IsBad spec limit old new =
    ComesOf refusals.Create TellsCreate (λ fault. IsNotCreated mem.ghosts old new fault × (fault ≡ BadSpec → IsBad))
    (clock_of new ≡ min (clock_of old + looks_in (reads_of old) + 8) (2 ^ 64 - 1)) Created spec limit old new

-- of one of a wrap, of which there may be none, and then nothing was done
abbrev pub BeginsWrap : Spec → MemStore → MemStore → Result (Option (AnyOpening × Origin)) Refusal → Type 0
BeginsWrap spec old new result = Begins (length (reads_of old) < turns spec) spec greatest_limit old new result ⊎ (IsNoSpec spec × (new ≡ old) × (result ≡ Err (refusals.Create BadSpec)))

-- what comes of a line where it opens a port; no other line does anything then
abbrev pub Opens : Line → MemStore → MemStore → Result (Option (AnyOpening × Origin)) Refusal → Type 0
Opens (lines.CreateFile limit) old new result = Begins (IsBadLimit limit ⊎ (length (reads_of old) ≡ 0)) File limit old new result
Opens (lines.ResumeFile limit) old new result =
    ComesOf refusals.Resume TellsResume (λ fault. IsNotResumed mem.ghosts old new fault × (fault ≡ resuming.BadSpec → IsBadLimit limit))
    (clock_of new ≡ clock_of old + length (reads_of old) + calls_in (reads_of old)) Resumed File limit old new result
Opens (lines.CreateWrap size count) old new result = BeginsWrap (Wrap size count) old new result
Opens (lines.CreateTime millis count) old new result = BeginsWrap (Timed millis count) old new result
Opens lines.ResumeWrap old new result = (spec : Spec) →
    ComesOf refusals.Resume TellsResume (IsNoWrapResumed mem.ghosts old new)
    ((spec : Spec) (c : Chain) → IsStore spec c (readings (reads_of old)) → clock_of new ≡ clock_finished (clock_of old + length (reads_of old) + calls_in (reads_of old)) (finishing_calls spec c)) Resumed spec greatest_limit old new result
Opens line old new result = (new ≡ old) × (result ≡ Ok None)

-- what comes of a line, and of the stretch of the script after it that its port takes: that was run on the port, or there is none, or the line makes none
pub data Runs (line : Line) (old new : MemStore) (over : Stretch) (Writes : List ℕ → Type 0) : Result (Option Leave) Stop → Type 0 where
  on_port : (mid : MemStore) (opening : AnyOpening) (origin : Origin) (left : Result (Option Leave) SimFault) → Opens line old mid (Ok (Some (opening, origin)))
      → WasHeldOver mem.ghosts opening (λ _. Alone) (greeting origin) (length (reads_of mid)) mid new over left Writes → Runs line old new over Writes (ended_so left)
  no_port : {refusal : Refusal} → Opens line old new (Err refusal) → ReadsNothing over → Writes [] → Runs line old new over Writes (Err (stops.Refused refusal))
  alone : (mid : MemStore) → Opens line old mid (Ok None) → DoesOrFails line mid new (Ok tt) Writes → ReadsNothing over → Runs line old new over Writes (Ok None)
  fails : (mid : MemStore) {fault : SimFault} → Opens line old mid (Ok None) → DoesOrFails line mid new (Err fault) Writes → ReadsNothing over → Runs line old new over Writes (Err (stops.Failed fault))

-- a line was run whole: with its port, if it made one, the stretch of the script that this took, and what is answered once that is no more
pub record IsRunWhole (line : Line) (old new : MemStore) (taken : Stretch) (result : Result Unit SimFault) (was now : Option (List ℕ)) : Type 0 where
  pub mid : MemStore
  pub between : Option (List ℕ)
  pub left : Result (Option Leave) Stop
  pub runs : Runs line old mid taken (λ text. Appends was between text) left
  pub over : IsFinished mid new (λ text. Appends between now text) left result

-- lines were run whole one after another, each on the store that the one before it left, and each was the next one of the script, after all that was read for the one before it
pub data AreRun (of_desk : Bool) (first : MemStore) (from : Progress) (out : Option (List ℕ)) : List Line → MemStore → Progress → Option (List ℕ) → Type 0 where
  none : AreRun of_desk first from out [] first from out
  more : {before : List Line} {mid new : MemStore} {at behind to : Progress} {was now : Option (List ℕ)} (line : Line) → AreRun of_desk first from out before mid at was → HasNext of_desk at behind line → IsOfFiles (length (reads_of mid)) line
      → IsRunWhole line mid new (stretch of_desk behind to) (Ok tt) was now → AreRun of_desk first from out (before ++ line ∷ []) new to now

-- the lines of a stretch of a script were run to its end; or no line comes next; or a fault of the line that came next ended that
pub data Simulates (old new : MemStore) (over : Stretch) (was now : Option (List ℕ)) : Result Unit SimFault → Type 0 where
  to_end : {last : Progress} (done : List Line) → AreRun over.of_desk old over.from was done new last now → HasEnded last over.to → Simulates old new over was now (Ok tt)
  no_line : {last : Progress} (done : List Line) (fault : SimFault) → AreRun over.of_desk old over.from was done new last now → IsNoLine over.of_desk (length (reads_of new)) last over.to fault → Simulates old new over was now (Err fault)
  broken_off : {mid : MemStore} {last behind : Progress} {between : Option (List ℕ)} (done : List Line) (line : Line) (fault : SimFault) → AreRun over.of_desk old over.from was done mid last between → HasNext over.of_desk last behind line → IsOfFiles (length (reads_of mid)) line
      → IsRunWhole line mid new (stretch over.of_desk behind over.to) (Err fault) between now → Simulates old new over was now (Err fault)

-- of two causes the first
abbrev pub first_of : Result Unit SimFault → Result Unit SimFault → Result Unit SimFault
first_of (Ok done) later = later
first_of (Err fault) later = Err fault

-- a script was run, whose reader had these bytes and has those left, over a store that was blank at first and had one file, and what was written was written out
pub data IsRun (had has was now : Option (List ℕ)) : Result Unit SimFault → Type 0 where
  runs : {old new : MemStore} {mid : Option (List ℕ)} {done : Result Unit SimFault} (count : ℕ) → IsNew old (replicate 1 []) → Simulates old new (first_lines false count had has) was mid done → Keeps mid now → IsRun had has was now done
  not_written_out : {old new : MemStore} {mid : Option (List ℕ)} (count : ℕ) → IsNew old (replicate 1 []) → Simulates old new (first_lines false count had has) was mid (Ok tt) → Keeps mid now → IsRun had has was now (Err faults.Write)
  -- there was no memory for its store
  no_memory : has ≡ had → Keeps was now → IsRun had has was now (Err faults.NoMemory)
