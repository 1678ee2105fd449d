-- What stands in files.
use Rattle.std.specs.Prelude.{◌≡◌, ◌≢◌, ◌↔◌, ℕ, ◌+◌, ◌<◌, nat_lt, if◌then◌else◌, IsTrue, List, [], length, take, slice_index, sum_by}
use Rattle.trace_store.specs.Disk.{Image, IsBytes, file_of}
use Rattle.foreign_files.specs.Foreign.{BeginsStream, IsForeign}
use Rattle.foreign_files.specs.declared.standing.Standing.{Standing}
use Rattle.foreign_files.specs.declared.standing.Standing.TheVariants.{Absent, Ours, Foreign}
use Rattle.foreign_files.specs.declared.sort.Sort.{Sort}
use Rattle.foreign_files.specs.declared.sort.Sort.TheVariants as sorts

-- ---- one file

-- the first bytes of a text of this length, with 0 where it has none
pub record IsHead (text : List ℕ) (size : ℕ) (head : List ℕ) : Type 0 where
  pub long : length text ≡ size
  pub bytes : IsBytes text
  pub same : (k : ℕ) → k < 36 → slice_index head k ≡ slice_index text k

-- what a file with this text is
abbrev pub IsSort : Sort → List ℕ → Type 0
IsSort sorts.Empty text = text ≡ []
IsSort sorts.Ours text = (text ≢ []) × (¬ IsForeign text)
IsSort (sorts.Foreign is_stream) text = IsForeign text × (IsTrue is_stream ↔ BeginsStream text)

-- ---- all files

-- a file of the store is foreign, and none before it
pub record IsFirstForeign (image : Image) (file : ℕ) : Type 0 where
  pub within : file < length image
  pub foreign : IsForeign (file_of image file)
  pub none_earlier : (k : ℕ) → k < file → IsForeign (file_of image k) → ⊥

-- some file isn't empty
pub record HasBytes (image : Image) : Type 0 where
  pub file : ℕ
  pub some : file_of image file ≢ []

-- when each answer comes
abbrev pub IsStanding : Standing → Image → Type 0
IsStanding Absent image = (k : ℕ) → file_of image k ≡ []
IsStanding Ours image = HasBytes image × ((k : ℕ) → IsForeign (file_of image k) → ⊥)
IsStanding (Foreign file is_stream) image = IsFirstForeign image file × (IsTrue is_stream ↔ BeginsStream (file_of image file))

-- a file that is named is among so many
abbrev pub NamesWithin : ℕ → Standing → Type 0
NamesWithin count Absent = Unit {0}
NamesWithin count Ours = Unit {0}
NamesWithin count (Foreign file is_stream) = file < count

-- ---- how many device calls

-- at a file with this text: its length and, from two bytes on, its first bytes
abbrev pub looks_for : List ℕ → ℕ
looks_for text = if nat_lt (length text) 2 then 1 else 2

-- how many files are looked at: up to the first foreign one
abbrev pub looked_at : Standing → Image → ℕ
looked_at Absent image = length image
looked_at Ours image = length image
looked_at (Foreign file is_stream) image = file + 1

-- at all of these
abbrev pub looks_of : Standing → Image → ℕ
looks_of standing image = sum_by looks_for (take (looked_at standing image) image)
