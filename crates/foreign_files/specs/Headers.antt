-- The header of the first file that has one.
use Rattle.std.specs.Prelude.{◌≡◌, ℕ, ◌<◌, Option, Some, None, List, length, take, drop}
use Rattle.trace_store.specs.Disk.{Image, file_of}
use Rattle.segment.specs.Segments.{Header, IsLawfulHeader, header_bytes, IsOpen}
use Rattle.segment.specs.Seen.{header_seen}
use Rattle.segment.specs.declared.header.SegHeader.{SegHeader}

-- an open file with a lawful header, whatever stands after it
pub record OpensWith (text : List ℕ) (h : Header) : Type 0 where
  pub opened : IsOpen text
  pub lawful : IsLawfulHeader h
  pub is : take 35 (drop 1 text) ≡ header_bytes h

-- the header of this text, if it has one
abbrev pub IsHeaderOf : Option SegHeader → List ℕ → Type 0
IsHeaderOf None text = (h : Header) → OpensWith text h → ⊥
IsHeaderOf (Some h) text = OpensWith text (header_seen h)

-- a file has this header, and none before it has any
pub record IsFirstHeader (image : Image) (h : SegHeader) : Type 0 where
  pub file : ℕ
  pub within : file < length image
  pub has : OpensWith (file_of image file) (header_seen h)
  pub none_earlier : (k : ℕ) → k < file → IsHeaderOf None (file_of image k)

-- when each answer comes
abbrev pub TellsHeader : Option SegHeader → Image → Type 0
TellsHeader None image = (k : ℕ) → IsHeaderOf None (file_of image k)
TellsHeader (Some h) image = IsFirstHeader image h
