-- What an import asks of its port, by what comes of its stream.
use Rattle.std.specs.Prelude.{◌≡◌, ◌≢◌, ℕ, ◌+◌, ◌<◌, ◌≤◌, Bool, false, List, [], ◌∷◌, ◌++◌, length, Result, Ok, Err}
use Rattle.std.specs.Result.{result_and}
use Rattle.std.specs.Io.KnownBytes.{Consumes, IsAtEnd}
use Rattle.entry_codec.specs.Entries.{Entry}
use Rattle.trace_store.specs.Disk.{Image}
use Rattle.segment.specs.Specification.{Spec}
use Rattle.recovery.specs.Items.{Item, kept}
use Rattle.recovery.specs.Views.{View, extend}
use Rattle.recovery.specs.Stores.{Reads as ReadsTrace, Holds}
use Rattle.trace_store.specs.Device.{Device, Leaves, IsIdle}
use Rattle.trace_port.specs.Sound.{Sound}
use Rattle.trace_port.specs.Port.{Told, Fits}
use Rattle.trace_port.specs.Runs as calls
use Rattle.trace_port.specs.Runs.{Call, AreMade, accepted, WasAsked}
use Rattle.trace_port.specs.declared.fault.PortFault.{PortFault}
use Rattle.trace_port.specs.declared.fault.PortFault.TheVariants as porting
use Rattle.trace_reader.specs.Observing.{Observations, Stood, with_read, newest_time}
use Rattle.import.specs.declared.import.Close.{Close}
use Rattle.import.specs.declared.import.Close.TheVariants as closing
use Rattle.import.specs.declared.import.Closed.{Closed}
use Rattle.import.specs.declared.import.Closed.TheVariants.{Sealed, Kept, Left}
use Rattle.import.specs.declared.import.Imported.{Imported}
use Rattle.import.specs.declared.fault.ImportFault.{ImportFault}
use Rattle.import.specs.declared.fault.ImportFault.TheVariants as faults
use Rattle.command_line.specs.declared.request.Ending.{Ending}
use Rattle.command_line.specs.declared.request.Ending.TheVariants.{Seal, Keep}
use Rattle.command_line.specs.declared.request.Flushing.{Flushing}
use Rattle.command_line.specs.declared.request.Flushing.TheVariants.{Always, Paused, Never}
use Rattle.import.specs.declared.incoming.Incoming.{Incoming}
use Rattle.import.specs.Incoming.{Brings, IsUnfinished, IsFaultAt, longest_read, Outside}
use Rattle.import.specs.Parts.{IsPart, Stands, left_of, giving}
use Rattle.import.specs.Marks.{HasMark, IsMarked, HasMarks, HasTotal, KeepsFirst}

-- where an import is: before a read; after a read of so many bytes, before its time is told; after that, while what has come whole is given; or there, where a flush is due after an entry
pub data Stage : Type 0 where
  Reads : Stage
  Tells : ℕ → Stage
  Gives : ℕ → Stage
  Flushes : ℕ → Stage

-- where it is after an entry
abbrev pub behind : Flushing → ℕ → Stage
behind Always n = Flushes n
behind Paused n = Gives n
behind Never n = Gives n

-- how far an import is
pub record SoFar : Type 0 where
  -- how many reads gave bytes
  pub reads : ℕ
  -- its reads and the times, after what was observed before it, the newest first
  pub observed : Observations
  -- the bytes that have come
  pub come : List ℕ
  -- the entries that were given of them, in order
  pub given : List Entry
  -- the calls of its port
  pub calls : List Call

-- nothing has come yet
abbrev pub at_first : Outside → SoFar
at_first start = record { reads = start.reads; observed = start.observed; come = []; given = []; calls = [] }

-- this has come too, in so many reads
abbrev pub come_too : SoFar → ℕ → List ℕ → SoFar
come_too far n chunk = record { reads = far.reads + n; observed = with_read chunk far.observed; come = far.come ++ chunk; given = far.given; calls = far.calls }

-- the port was asked to flush, too
abbrev pub flushed_too : SoFar → Result ℕ PortFault → SoFar
flushed_too far result = record { reads = far.reads; observed = far.observed; come = far.come; given = far.given; calls = far.calls ++ calls.Flush result ∷ [] }

-- the clock stood there, and the port was told so
abbrev pub told_too : SoFar → ℕ → Result Bool PortFault → SoFar
told_too far now result = record { reads = far.reads; observed = Stood now ∷ far.observed; come = far.come; given = far.given; calls = far.calls ++ calls.Tick now result ∷ [] }

-- the port took an entry, too
abbrev pub given_too : SoFar → Entry → ℕ → SoFar
given_too far e number = record { reads = far.reads; observed = far.observed; come = far.come; given = far.given ++ e ∷ []; calls = far.calls ++ calls.Accept e (Ok number) ∷ [] }

-- it refused one
abbrev pub refused_too : SoFar → Entry → PortFault → SoFar
refused_too far e fault = record { reads = far.reads; observed = far.observed; come = far.come; given = far.given; calls = far.calls ++ calls.Accept e (Err fault) ∷ [] }

-- bytes of one read
pub record IsRead (chunk : List ℕ) : Type 0 where
  pub some : 0 < length chunk
  pub most : length chunk ≤ longest_read

-- the writer pauses after a read of so many bytes, and this part of an entry stands there
pub record Pauses (longest : ℕ) (flushing : Flushing) (far : SoFar) (n : ℕ) (part : List ℕ) : Type 0 where
  pub brings : Brings longest far.come far.given part
  pub unfinished : IsUnfinished part
  pub rule : flushing ≡ Paused
  pub short : n < longest_read

-- What the port was asked until now, by what has come and what of it was given. Right after each read the clock is looked at
-- once, and its time told; then each entry that has come whole is given, and what was given is flushed by the rule. So what
-- the import observes is a read, a time, a read, a time, and each of these times is told.
--
--   longest   the bytes of the longest message that is kept
--   flushing  when the option says to flush
--   start     what the import saw at first: its reads are counted from there, and what it observes goes on from there
--   stage     where the import is
--   far       how far it is: the reads, what was observed, what has come, what of it was given, and the calls of the port
--   n         how many bytes the newest read gave
--   chunk     the bytes that it gave
--   now       the milliseconds at which the clock stood after the newest read
--   cut       whether the port began its next file then
--   part      the bytes after those that stand for the entries
--   number    the number of the entry that is given
--   left      the entries that stand in the same bytes as it, and come after it
--   covered   the entries that a flush covers
pub data HasAsked (longest : ℕ) (flushing : Flushing) (start : Outside) : Stage → SoFar → Type 0 where
  begins : HasAsked longest flushing start Reads (at_first start)
  reads : {far : SoFar} (chunk : List ℕ) → HasAsked longest flushing start Reads far → IsRead chunk → HasAsked longest flushing start (Tells (length chunk)) (come_too far 1 chunk)
  tells : {far : SoFar} {n : ℕ} (now : ℕ) (cut : Bool) → HasAsked longest flushing start (Tells n) far → newest_time far.observed ≤ now → HasAsked longest flushing start (Gives n) (told_too far now (Ok cut))
  gives : {far : SoFar} {n : ℕ} (part : List ℕ) (entry : Entry) (left : List Entry) (number : ℕ) → HasAsked longest flushing start (Gives n) far → Brings longest far.come (far.given ++ entry ∷ left) part → HasAsked longest flushing start (behind flushing n) (given_too far entry number)
  flushes : {far : SoFar} {n : ℕ} (covered : ℕ) → HasAsked longest flushing start (Flushes n) far → HasAsked longest flushing start (Gives n) (flushed_too far (Ok covered))
  pauses : {far : SoFar} {n : ℕ} (part : List ℕ) (covered : ℕ) → HasAsked longest flushing start (Gives n) far → Pauses longest flushing far n part → HasAsked longest flushing start Reads (flushed_too far (Ok covered))
  goes_on : {far : SoFar} {n : ℕ} (part : List ℕ) → HasAsked longest flushing start (Gives n) far → Brings longest far.come far.given part → IsUnfinished part → (flushing ≡ Paused → longest_read ≤ n) → HasAsked longest flushing start Reads far

-- what the port refused last: the time, the next entry, or a flush
pub data IsRefused (longest : ℕ) (flushing : Flushing) (start : Outside) (fault : PortFault) : SoFar → Type 0 where
  time : {far : SoFar} {n : ℕ} (now : ℕ) → HasAsked longest flushing start (Tells n) far → newest_time far.observed ≤ now → IsRefused longest flushing start fault (told_too far now (Err fault))
  entry : {far : SoFar} {n : ℕ} (part : List ℕ) (entry : Entry) (left : List Entry) → HasAsked longest flushing start (Gives n) far → Brings longest far.come (far.given ++ entry ∷ left) part → IsRefused longest flushing start fault (refused_too far entry fault)
  flush : {far : SoFar} {n : ℕ} → HasAsked longest flushing start (Flushes n) far → IsRefused longest flushing start fault (flushed_too far (Err fault))
  pause : {far : SoFar} {n : ℕ} (part : List ℕ) → HasAsked longest flushing start (Gives n) far → Pauses longest flushing far n part → IsRefused longest flushing start fault (flushed_too far (Err fault))

-- how a stream ended, and how far the import was
pub data Ended (longest : ℕ) (flushing : Flushing) (start : Outside) : Result Unit ImportFault → SoFar → Type 0 where
  whole : {far : SoFar} → HasAsked longest flushing start Reads far → Brings longest far.come far.given [] → Ended longest flushing start (Ok tt) far
  cut : {far : SoFar} (part : List ℕ) (place : ℕ) → HasAsked longest flushing start Reads far → Brings longest far.come far.given part → 0 < length part → place + length part ≡ length far.come → Ended longest flushing start (Err (faults.Truncated place)) far
  broken : {far : SoFar} {n : ℕ} (part : List ℕ) (place : ℕ) (fault : ImportFault) → HasAsked longest flushing start (Gives n) far → Brings longest far.come far.given part → place + length part ≡ length far.come → IsFaultAt longest fault place part
      → Ended longest flushing start (Err fault) far
  refused : {far : SoFar} (fault : PortFault) → IsRefused longest flushing start fault far → Ended longest flushing start (Err (faults.Refused fault)) far
  -- the reader failed
  unread : {far : SoFar} → HasAsked longest flushing start Reads far → Ended longest flushing start (Err faults.Read) far

-- the stream was read to its end
abbrev pub IsToEnd : Result Unit ImportFault → Type 0
IsToEnd (Ok _) = Unit {0}
IsToEnd (Err (faults.Truncated place)) = Unit {0}
IsToEnd (Err _) = ⊥

-- an import that is so far saw this at first, and sees that now
pub record Sees (was is : Outside) (far : SoFar) : Type 0 where
  pub consumes : Consumes was.remaining is.remaining far.come
  pub reads : far.reads ≡ is.reads
  pub observed : far.observed ≡ is.observed

-- a stream was put into a port
pub record Feeds {P : Type 0} (told : P → Told) (old new : P) (longest : ℕ) (flushing : Flushing) (was is : Outside) (incoming : Incoming) (result : Result Unit ImportFault) : Type 0 where
  pub far : SoFar
  pub made : AreMade told old far.calls new
  pub sees : Sees was is far
  pub ended : Ended longest flushing was result far
  pub at_end : IsToEnd result → IsAtEnd is.remaining
  pub marks : HasMarks longest incoming far.come (kept (accepted far.calls))

-- where an import is: how far, the entries that are found and not given, and the part after their bytes
pub record IsAt {P : Type 0} (told : P → Told) (first now : P) (longest : ℕ) (flushing : Flushing) (stage : Stage) (was is : Outside) (incoming : Incoming) (left : List Entry) (part : List ℕ) : Type 0 where
  pub far : SoFar
  pub made : AreMade told first far.calls now
  pub sees : Sees was is far
  pub has : HasAsked longest flushing was stage far
  pub stands : Stands longest far.come far.given left (giving incoming) part
  pub longest_is : incoming.longest ≡ longest
  pub left_is : left_of incoming.message ≡ left
  pub is_part : IsPart incoming part
  pub place : incoming.place + length part ≡ length far.come
  pub marked : IsMarked longest incoming far.come far.given far.calls

-- an import ended so
pub record Stops {P : Type 0} (told : P → Told) (first now : P) (longest : ℕ) (flushing : Flushing) (was is : Outside) (incoming : Incoming) (fault : ImportFault) : Type 0 where
  pub far : SoFar
  pub made : AreMade told first far.calls now
  pub sees : Sees was is far
  pub ended : Ended longest flushing was (Err fault) far
  pub not_at_end : IsToEnd (Err fault) → ⊥
  pub marks : HasMarks longest incoming far.come (kept (accepted far.calls))

-- what is to become of a trace after a fault: only where its device has failed it is left as it is
abbrev pub close_behind : ImportFault → Close
close_behind (faults.Refused porting.Device) = closing.Leave
close_behind _ = closing.Keep

-- what is to become of it: it is sealed exactly where its stream ended between two entries and that is to seal it
abbrev pub close_for : Ending → Result Unit ImportFault → Close
close_for Seal (Ok _) = closing.Seal
close_for Keep (Ok _) = closing.Keep
close_for ending (Err fault) = close_behind fault

-- by which calls a trace is closed whose stream ended so, what becomes of it, and what is answered: the stream's fault before the port's
pub data Closes (fed : Result Unit ImportFault) : Close → List Call → Closed → Result Unit ImportFault → Type 0 where
  seals : Closes fed closing.Seal (calls.Seal (Ok tt) ∷ []) Sealed fed
  not_sealed : (fault : PortFault) → Closes fed closing.Seal (calls.Seal (Err fault) ∷ []) Left (result_and fed (Err (faults.Refused fault)))
  keeps : (covered : ℕ) → Closes fed closing.Keep (calls.Flush (Ok covered) ∷ calls.Abandon ∷ []) Kept fed
  not_kept : (fault : PortFault) → Closes fed closing.Keep (calls.Flush (Err fault) ∷ calls.Abandon ∷ []) Left (result_and fed (Err (faults.Refused fault)))
  leaves : Closes fed closing.Leave (calls.Abandon ∷ []) Left fed

-- a port whose stream ended so was closed
pub record IsClosed {P : Type 0} (told : P → Told) (old new : P) (close : Close) (fed : Result Unit ImportFault) (imported : Imported) : Type 0 where
  pub last : List Call
  pub made : AreMade told old last new
  pub closes : Closes fed close last imported.closed imported.done
  pub total : imported.total ≡ (told new).total

-- a stream was put into a port, which then was closed
pub record Imports {P : Type 0} (told : P → Told) (old new : P) (longest : ℕ) (flushing : Flushing) (ending : Ending) (was is : Outside) (incoming : Incoming) (imported : Imported) : Type 0 where
  pub mid : P
  pub fed : Result Unit ImportFault
  pub feeds : Feeds told old mid longest flushing was is incoming fed
  pub closed : IsClosed told mid new (close_for ending fed) fed imported

-- a trace that has these items since an opening, and isn't sealed
pub record StaysOpen (spec : Spec) (first last : Device) (v0 : View) (ys : List Item) (c : ℕ) : Type 0 where
  -- each moment was sound, whatever comes after: none left a seal
  pub since : (more : List Item) → Leaves first last (Sound spec v0 (ys ++ more) c)
  pub whole : (image : Image) → last.images image → ReadsTrace image (Holds spec (extend spec v0 ys) false)

-- a stream was put into a port over an opening, which then was closed and dropped
pub record WasImported {P : Type 0} (told : P → Told) (opened : Told) (longest : ℕ) (flushing : Flushing) (ending : Ending) (was is : Outside) (come : List ℕ) (incoming : Incoming) (imported : Imported) (last : Device) : Type 0 where
  pub far : SoFar
  pub come_is : far.come ≡ come
  pub sees : Sees was is far
  pub fed : Result Unit ImportFault
  pub ended : Ended longest flushing was fed far
  pub at_end : IsToEnd fed → IsAtEnd is.remaining
  pub closed_by : List Call
  pub closes : Closes fed (close_for ending fed) closed_by imported.closed imported.done
  pub asked : WasAsked told opened (far.calls ++ closed_by) last
  pub total : imported.total ≡ (told asked.end).total
  -- the drop of a port that was given up does nothing
  pub idle : close_for ending fed ≢ closing.Seal → IsIdle (told asked.end).device last
  -- of how many entries the store has in all follows after how many bytes of the stream none is kept, where their end is known
  pub first : last.honest → (v0 : View) (c : ℕ) → Fits opened v0 [] c → (entries bytes : ℕ) → HasMark incoming entries bytes → HasTotal last.reads (opened.total + entries) → KeepsFirst longest opened.spec v0 come entries bytes last.reads
  pub kept : imported.closed ≡ Kept → last.honest → (v0 : View) (c : ℕ) → Fits opened v0 [] c → StaysOpen opened.spec opened.device last v0 (accepted (far.calls ++ closed_by)) c
