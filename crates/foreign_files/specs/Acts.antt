-- Device calls on one file, one after another, and what a crash leaves of it at any moment.
use Rattle.std.specs.Prelude.{◌≡◌, ◌≢◌, ◌⊎◌, ℕ, ◌+◌, ◌≤◌, true, false, List, [], ◌∷◌, ◌++◌, length, slice_index}
use Rattle.trace_store.specs.Disk.{DiskFile, IsFileImage}
use Rattle.stores.specs.Events.{after_asked, IsRight}
use Rattle.stores.specs.declared.device_call.Asked.{Asked}
use Rattle.stores.specs.declared.device_call.Asked.TheVariants as asked
use Rattle.segment.specs.Segments.{Header, header_bytes}
use Rattle.foreign_files.specs.Foreign.{HasMagic, IsTame}

-- what a file is asked, and the bytes that it is given
pub record Act : Type 0 where
  pub asked : Asked
  pub bytes : List ℕ

abbrev pub write_at : ℕ → List ℕ → Act
write_at place bytes = record { asked = asked.Write place; bytes = bytes }

abbrev pub cut_to : ℕ → Act
cut_to n = record { asked = asked.Cut n; bytes = [] }

abbrev pub sync : Act
sync = record { asked = asked.Sync; bytes = [] }

-- the call failed, and left the file so
pub record FailsTo (act : Act) (old new : DiskFile) : Type 0 where
  pub left : List ℕ
  pub right : IsRight act.asked false act.bytes left old
  pub is : new ≡ after_asked act.asked false act.bytes left old

-- the file after the call, which succeeded
abbrev pub after : Act → DiskFile → DiskFile
after act file = after_asked act.asked true act.bytes [] file

-- the file at a moment of these calls: before all, after some of them, or after one that failed, which is the last
abbrev pub AtMoment : List Act → DiskFile → DiskFile → Type 0
AtMoment [] file now = now ≡ file
AtMoment (act ∷ acts) file now = (now ≡ file) ⊎ (FailsTo act file now ⊎ (IsRight act.asked true act.bytes [] file × AtMoment acts (after act file) now))

-- ---- the calls that change a segment

abbrev pub prepare_acts : List Act
prepare_acts = cut_to 1 ∷ sync ∷ write_at 0 (0 ∷ []) ∷ sync ∷ []

abbrev pub open_acts : Header → List Act
open_acts h = write_at 1 (header_bytes h ++ 0 ∷ []) ∷ sync ∷ write_at 0 (1 ∷ []) ∷ sync ∷ []

-- of a batch, and of the seal
abbrev pub gate_acts : ℕ → List ℕ → List Act
gate_acts gate behind = write_at (gate + 1) behind ∷ sync ∷ write_at gate (1 ∷ []) ∷ sync ∷ []

abbrev pub retire_acts : List Act
retire_acts = write_at 0 (0 ∷ []) ∷ sync ∷ cut_to 1 ∷ sync ∷ []

-- ---- what a crash leaves

-- a crash leaves only texts with this property
abbrev pub LeavesTexts : (List ℕ → Type 0) → DiskFile → Type 0
LeavesTexts P file = (text : List ℕ) → IsFileImage file text → P text

-- after a cut that isn't synced: a text with the magic and a first byte other than 00, of which that byte is left, and any bytes where others were cut off
pub record IsBehindCut (file : DiskFile) (text : List ℕ) : Type 0 where
  pub was : List ℕ
  pub left : IsFileImage file was
  pub magic : HasMagic was
  pub gate : slice_index was 0 ≢ 0
  pub same_gate : slice_index text 0 ≡ slice_index was 0
  pub no_longer : length text ≤ length was

-- it has the magic, or 00 at the front, or fewer than two bytes, or it lies after the cut to 1 that begins a preparation
abbrev pub IsTameOrBehindCut : DiskFile → DiskFile → List ℕ → Type 0
IsTameOrBehindCut file now text = IsTame text ⊎ (AtMoment (cut_to 1 ∷ []) file now × IsBehindCut file text)
