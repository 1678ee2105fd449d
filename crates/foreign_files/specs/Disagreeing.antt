-- Files that don't belong together.
use Rattle.std.specs.Prelude.{◌≡◌, ◌≢◌, ◌⊎◌, ◌↔◌, ℕ, ◌+◌, ◌-◌, Bool, IsTrue, false, ◌<◌, ◌≤◌, Option, Some, None, List, [], ◌∷◌, length}
use Rattle.std.specs.List.{AllByRecursion}
use Rattle.trace_store.specs.Disk.{Image, file_of}
use Rattle.segment.specs.Segments.{Header, Segment, Open, reading_of}
use Rattle.segment.specs.Specification.{count_of}
use Rattle.segment.specs.Seen.{header_seen}
use Rattle.recovery.specs.Stores.{file_for, IsNext}
use Rattle.foreign_files.specs.Headers.{OpensWith}
use Rattle.foreign_files.specs.declared.named.Disagreement.{Disagreement}
use Rattle.foreign_files.specs.declared.named.Disagreement.TheVariants.{One, Two, Missing}
use Rattle.foreign_files.specs.declared.open_files.OpenFile.{OpenFile}

-- ---- two files

-- the segment of a text isn't sealed, and this header comes next after it
pub record GoesOn (text : List ℕ) (next : Header) : Type 0 where
  pub segment : Segment
  pub is : reading_of text ≡ Open segment
  pub unsealed : segment.sealed ≡ false
  pub follows : IsNext segment next

-- no open file has a generation between these
abbrev pub HasNoneBetween : Image → ℕ → ℕ → Type 0
HasNoneBetween image low high = (file : ℕ) (h : Header) → OpensWith (file_of image file) h → (h.generation ≤ low) ⊎ (high ≤ h.generation)

-- the second has the next generation of those in the store, and doesn't come next after the first
pub record IsBroken (image : Image) (text : List ℕ) (older newer : Header) : Type 0 where
  pub later : older.generation < newer.generation
  pub near : HasNoneBetween image older.generation newer.generation
  pub broken : ¬ GoesOn text newer

-- ---- what is named

-- an open file that isn't the one of its generation
pub record IsMisplaced (image : Image) (file : ℕ) : Type 0 where
  pub header : Header
  pub has : OpensWith (file_of image file) header
  pub place : file_for header.spec header.generation ≢ file

-- two open files of different specifications, or of generations that don't go on
pub record AreApart (image : Image) (one other : ℕ) : Type 0 where
  pub first : Header
  pub second : Header
  pub has_first : OpensWith (file_of image one) first
  pub has_second : OpensWith (file_of image other) second
  pub why : (first.spec ≢ second.spec) ⊎ IsBroken image (file_of image one) first second

-- no open file has a later generation
abbrev pub IsNewest : Image → ℕ → Type 0
IsNewest image newest = (file : ℕ) (h : Header) → OpensWith (file_of image file) h → h.generation ≤ newest

-- no open file has this generation
abbrev pub HasNone : Image → ℕ → Type 0
HasNone image generation = (file : ℕ) (h : Header) → OpensWith (file_of image file) h → h.generation ≢ generation

-- the oldest generation that a wrap of so many runs keeps beside its newest
abbrev pub oldest_kept : ℕ → ℕ → ℕ
oldest_kept newest count = (newest + 1) - count

-- a wrap keeps a generation that no open file has, and this is its file
pub record IsMissing (image : Image) (file : ℕ) (is_oldest : Bool) : Type 0 where
  pub at : ℕ
  pub newest : Header
  pub has : OpensWith (file_of image at) newest
  pub none_later : IsNewest image newest.generation
  pub count : ℕ
  pub keeps : count_of newest.spec ≡ Some count
  pub generation : ℕ
  pub kept : oldest_kept newest.generation count ≤ generation
  pub older : generation < newest.generation
  pub gone : HasNone image generation
  pub place : file_for newest.spec generation ≡ file
  pub oldest : IsTrue is_oldest ↔ (generation ≡ oldest_kept newest.generation count)

abbrev pub IsDisagreement : Image → Disagreement → Type 0
IsDisagreement image (One file) = IsMisplaced image file
IsDisagreement image (Two one other) = AreApart image one other
IsDisagreement image (Missing file is_oldest) = IsMissing image file is_oldest

-- the files named are among so many
abbrev pub NamesWithin : ℕ → Disagreement → Type 0
NamesWithin count (One file) = file < count
NamesWithin count (Two one other) = (one < count) × (other < count)
NamesWithin count (Missing file is_oldest) = file < count

-- ---- files that belong together

-- the open files have one specification
abbrev pub AreAlike : Image → Type 0
AreAlike image = (one other : ℕ) (g h : Header) → OpensWith (file_of image one) g → OpensWith (file_of image other) h → g.spec ≡ h.spec

-- each is the one of its generation
abbrev pub AreInPlace : Image → Type 0
AreInPlace image = (file : ℕ) (h : Header) → OpensWith (file_of image file) h → file_for h.spec h.generation ≡ file

-- no kept generation is missing of which the file is among so many
abbrev pub HasAllKept : ℕ → Image → Type 0
HasAllKept count image = (file : ℕ) (is_oldest : Bool) → file < count → ¬ IsMissing image file is_oldest

-- each goes on to the next generation of those in the store
abbrev pub AllGoOn : Image → Type 0
AllGoOn image = (one other : ℕ) (g h : Header) → OpensWith (file_of image one) g → OpensWith (file_of image other) h → ¬ IsBroken image (file_of image one) g h

-- what an answer tells: a disagreement, or that there is none among the files of the store
abbrev pub TellsDisagreement : Image → Option Disagreement → Type 0
TellsDisagreement image None = (d : Disagreement) → NamesWithin (length image) d → ¬ IsDisagreement image d
TellsDisagreement image (Some d) = IsDisagreement image d

-- ---- open files in memory

-- it is open and has this header
abbrev pub IsOpenFile : Image → OpenFile → Type 0
IsOpenFile image f = OpensWith (file_of image f.file) (header_seen f.header)

-- one of them is this file with this header
abbrev pub IsAmong : ℕ → Header → List OpenFile → Type 0
IsAmong file h [] = ⊥
IsAmong file h (f ∷ files) = ((f.file ≡ file) × (header_seen f.header ≡ h)) ⊎ IsAmong file h files

-- each is open, and no other is
pub record AreOpenFiles (image : Image) (files : List OpenFile) : Type 0 where
  pub are : AllByRecursion (IsOpenFile image) files
  pub all : (file : ℕ) (h : Header) → OpensWith (file_of image file) h → IsAmong file h files

-- they are among so many
abbrev pub AreWithin : ℕ → List OpenFile → Type 0
AreWithin count files = AllByRecursion (λ f. f.file < count) files

-- the one with the least generation above this, if there is one
abbrev pub IsLeastAbove : ℕ → List OpenFile → Option OpenFile → Type 0
IsLeastAbove generation files None = AllByRecursion (λ f. f.header.generation ≤ generation) files
IsLeastAbove generation files (Some next) =
    (generation < next.header.generation) × AllByRecursion (λ f. (f.header.generation ≤ generation) ⊎ (next.header.generation ≤ f.header.generation)) files
