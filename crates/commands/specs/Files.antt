-- What is done with the real files of a trace.
use Rattle.std.specs.Prelude.{◌≡◌, ◌≢◌, ◌<◌, ℕ, ◌+◌, ◌*◌, ◌-◌, ◌^◌, ◌≤◌, min, length, true, Option, Some, None, List, [], Result, Ok, Err}
use Rattle.std.specs.Io.KnownBytes.{Appends}
use Rattle.segment.specs.DeviceCalls.{DeviceReads}
use Rattle.segment.specs.Pieces.{pieces_to}
use Rattle.recovery.specs.Wiping.{wiping_calls}
use Rattle.commands.specs.Openings.{most_to_begin}
use Rattle.trace_store.specs.Device.{OnlyReads}
use Rattle.trace_store.specs.Moments.{Rose}
use Rattle.stores.specs.FolderStore.{made_of, honest_of, reads_of, images_of, moments_of, clock_of, failures_of}
use Rattle.stores.specs.declared.folder_store.FolderStore.{FolderStore}
use Rattle.stores.specs.contracts.folder_store.FolderStoreStore.TheImpl as folder
use Rattle.script_runner.specs.Answers.{opened_answer}
use Rattle.script_runner.specs.Faults.{IsFaultOfDevice}
use Rattle.faults.specs.Faults.{IsFaultOfSeveral}
use Rattle.script_runner.specs.Sides.{in_desk}
use Rattle.script_runner.specs.Texts.{line_of}
use Rattle.script_runner.specs.Read.{first_lines}
use Rattle.script_runner.specs.Held.{WasHeldOver}
use Rattle.import.specs.Marks.{HasMark, HasTotal, KeepsFirst}
use Rattle.import.specs.declared.incoming.Incoming.{Incoming}
use Rattle.trace_store.specs.Disk.{Image}
use Rattle.recovery.specs.Views.{View}
use Rattle.recovery.specs.Recovery.{Refuses}
use Rattle.recovery.specs.declared.fault.RecoverFault.{RecoverFault}
use Rattle.recovery.specs.declared.fault.RecoverFault.TheVariants as causes
use Rattle.trace_port.specs.Port.{Told, Fits}
use Rattle.faults.specs.declared.kept.Kept.{Kept}
use Rattle.faults.specs.declared.complaint.Complaint.{Complaint}
use Rattle.script_runner.specs.declared.answer.Answer.TheVariants.{Done}
use Rattle.script_runner.specs.declared.fault.SimFault.{SimFault}
use Rattle.script_runner.specs.declared.fault.SimFault.TheVariants as faults
use Rattle.trace_client.specs.Output.{AppendsPrefix}
use Rattle.script_runner.specs.declared.opening.AnyOpening.{AnyOpening}
use Rattle.script_runner.specs.declared.reply.Leave.{Leave}
use Rattle.script_runner.specs.declared.reply.Origin.{Origin}

-- the files were read at most
abbrev pub OnlyLooks : FolderStore → FolderStore → Type 0
OnlyLooks old new = OnlyReads made_of honest_of clock_of reads_of images_of moments_of old new

-- the failure count after some device calls, of which any may have failed
pub data MayFail (before : ℕ) : ℕ → Type 0 where
  none : MayFail before before
  more : {mid now : ℕ} → MayFail before mid → Rose mid now → MayFail before now

-- the most device calls to see which files disagree
abbrev pub most_to_tell : Image → ℕ
most_to_tell image = (4 + pieces_to 1099511627780) * length image

-- so many, and where a fault ends it those to tell of that
abbrev pub most_with : {T : Type 0} → Result T Complaint → ℕ → Image → ℕ
most_with (Ok done) most image = most
most_with (Err complaint) most image = most + most_to_tell image

-- and to see how much of an input is kept
abbrev pub most_to_end : Image → ℕ
most_to_end image = most_to_tell image + (2 + pieces_to 1099511627780) * length image

-- so many device calls at most: to see which files disagree, to tell how an import ended, to look at the front of each file
abbrev pub CallsToTell : FolderStore → FolderStore → Type 0
CallsToTell old new = clock_of new ≤ clock_of old + most_to_tell (reads_of old)

abbrev pub CallsToEnd : FolderStore → FolderStore → Type 0
CallsToEnd old new = clock_of new ≤ clock_of old + most_to_end (reads_of old)

abbrev pub CallsToLook : FolderStore → FolderStore → Type 0
CallsToLook old new = clock_of new ≤ clock_of old + 2 * length (reads_of old)

-- to open a port, after such a look
abbrev pub CallsToOpen : FolderStore → FolderStore → Type 0
CallsToOpen old new = honest_of new → clock_of new ≤ clock_of old + (2 * length (reads_of old) + most_to_begin (reads_of old))

-- the front of each file was looked at, and no device call failed
pub record LooksWell (old new : FolderStore) : Type 0 where
  pub only_reads : OnlyLooks old new
  pub no_failure : failures_of new ≡ failures_of old
  pub at_most : CallsToLook old new

-- to see how much of an input is kept
abbrev pub CallsToKeep : FolderStore → FolderStore → Type 0
CallsToKeep old new = clock_of new ≤ clock_of old + (2 + pieces_to 1099511627780) * length (reads_of old)

-- to clear the files, after a look; the clock stays at its last value
abbrev pub CallsToClear : FolderStore → FolderStore → Type 0
CallsToClear old new = min (clock_of new) (2 ^ 64 - 1) ≤ clock_of old + 2 * length (reads_of old) + wiping_calls (reads_of old) + 6 * length (reads_of old)

-- to clear them, or to try that where a call fails
abbrev pub CallsToTryClearing : FolderStore → FolderStore → Type 0
CallsToTryClearing old new = clock_of new ≤ clock_of old + 15 * length (reads_of old)

-- the files were read at most, to tell of a fault; where that is of the device, no call was made behind the one that it tells of
pub record LooksBehind (fault : SimFault) (old new : FolderStore) : Type 0 where
  pub only_reads : OnlyLooks old new
  pub failures : MayFail (failures_of old) (failures_of new)
  pub of_device : IsFaultOfDevice fault → new ≡ old
  -- but for files that disagree none is looked at
  pub alone : (IsFaultOfSeveral fault → ⊥) → new ≡ old
  pub at_most : CallsToTell old new

-- the files were read at most, by at most so many device calls, and this was told of them, where they are honest
pub record LooksOver (old new : FolderStore) (most : ℕ) (Told : Type 0) : Type 0 where
  pub only_reads : OnlyLooks old new
  pub at_most : honest_of new → clock_of new ≤ clock_of old + most
  pub told : honest_of new → Told

-- the same of a call that answers this, with the failures that its fault tells of and at most so many device calls
abbrev pub FolderReads : {T E : Type 0} → (ℕ → ℕ → E → Type 0) → FolderStore → FolderStore → Result T E → Type 0 → Type 0
FolderReads Tells old new result Most = DeviceReads folder.ghosts Tells old new result Most

-- what is answered after the lines: one line more where the port was given up, of which a failed writer has a part
abbrev pub IsAnswered : Result (Option Leave) SimFault → Result Unit SimFault → Option (List ℕ) → Option (List ℕ) → Type 0
IsAnswered (Ok None) result mid new = (result ≡ Ok tt) × (new ≡ mid)
IsAnswered (Ok (Some leave)) (Ok done) mid new = Appends mid new (line_of Done)
IsAnswered (Ok (Some leave)) (Err fault) mid new = (fault ≡ faults.Write) × AppendsPrefix mid new (line_of Done)
IsAnswered (Err fault) result mid new = (result ≡ Err fault) × (new ≡ mid)

-- a script whose reader had these bytes, and has those left, was recorded so
pub record WasRecorded (opened : AnyOpening) (origin : Origin) (old new : FolderStore) (had has : Option (List ℕ)) (result : Result Unit SimFault) (was now : Option (List ℕ)) : Type 0 where
  pub left : Result (Option Leave) SimFault
  pub count : ℕ
  pub mid : Option (List ℕ)
  -- its first lines were run at the desk of a port over the opening, which then was dropped
  pub ran : WasHeldOver folder.ghosts opened (λ _. in_desk) (opened_answer origin) 0 old new (first_lines true count had has) left (λ text. Appends was mid text)
  pub answered : IsAnswered left result mid now

-- so much was counted: the entries that a store has more than before, where their end is known, after the bytes that were passed over
pub record IsCounted (skip before : ℕ) (incoming : Incoming) (image : Image) (kept : Kept) : Type 0 where
  pub bytes : ℕ
  pub after : kept.bytes ≡ bytes + skip
  pub mark : HasMark incoming kept.entries bytes
  pub total : HasTotal image (before + kept.entries)

-- why it isn't known: fewer entries than before are there, or where so many end isn't known or no u64 holds it
pub data NotCounted (skip before : ℕ) (incoming : Incoming) (total : ℕ) : Type 0 where
  fewer : total < before → NotCounted skip before incoming total
  no_mark : (entries : ℕ) → before + entries ≡ total → ((bytes : ℕ) → HasMark incoming entries bytes → ⊥) → NotCounted skip before incoming total
  too_far : (entries bytes : ℕ) → before + entries ≡ total → HasMark incoming entries bytes → 2 ^ 64 ≤ bytes + skip → NotCounted skip before incoming total

-- or the files aren't read
pub data IsUnknown (skip before : ℕ) (incoming : Incoming) (image : Image) (Failed : Type 0) : Type 0 where
  not_counted : (total : ℕ) → HasTotal image total → NotCounted skip before incoming total → IsUnknown skip before incoming image Failed
  refused : (fault : RecoverFault) → fault ≢ causes.NoMemory → (fault ≡ causes.Device → Failed) → Refuses image fault → IsUnknown skip before incoming image Failed

-- how much is counted, or why that isn't known
abbrev pub IsCount : ℕ → ℕ → Incoming → Image → Type 0 → Option Kept → Type 0
IsCount skip before incoming image Failed None = IsUnknown skip before incoming image Failed
IsCount skip before incoming image Failed (Some kept) = IsCounted skip before incoming image kept

-- the same by how many entries there are
abbrev pub CountsSo : ℕ → ℕ → Incoming → ℕ → Option Kept → Type 0
CountsSo skip before incoming total None = NotCounted skip before incoming total
CountsSo skip before incoming total (Some kept) = (bytes : ℕ) × (kept.bytes ≡ bytes + skip) × HasMark incoming kept.entries bytes × (before + kept.entries ≡ total)

-- so much is kept of an input, of which so many bytes were passed over and these came then: after what a port over an opening found there, a store has exactly so many entries, those of the bytes up to there and maybe the first fragments of the message there
pub record IsKeptOf (opened : Told) (longest skip : ℕ) (come : List ℕ) (image : Image) (kept : Kept) : Type 0 where
  pub bytes : ℕ
  pub after : kept.bytes ≡ bytes + skip
  pub keeps : (v0 : View) (c : ℕ) → Fits opened v0 [] c → KeepsFirst longest opened.spec v0 come kept.entries bytes image
