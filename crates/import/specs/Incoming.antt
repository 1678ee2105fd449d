-- An entry stream that comes in.
use Rattle.std.specs.Prelude.{◌≡◌, ◌≢◌, ◌⊎◌, ℕ, ◌+◌, ◌<◌, ◌≤◌, ◌^◌, min, Option, List, [], ◌∷◌, ◌++◌, length, slice_index}
use Rattle.std.specs.Io.KnownBytes.{Consumes, IsAtEnd}
use Rattle.entry_codec.specs.Entries.{Entry, Message, Drop, IsLawful, spelling}
use Rattle.entry_codec.specs.Outcomes.{HasHead, IsTruncated, IsBadOp, IsZeroDrop, IsTooLong}
use Rattle.long_messages.specs.Fragments.{split}
use Rattle.trace_reader.specs.Observing.{Observations, with_read}
use Rattle.import.specs.declared.fault.ImportFault.{ImportFault}
use Rattle.import.specs.declared.fault.ImportFault.TheVariants as faults

-- the first byte of each message that a node writes: the version of the External Term Format
abbrev pub version : ℕ
version = 131

-- a node writes it
abbrev pub IsWritten : Entry → Type 0
IsWritten (Message message) = slice_index message 0 ≡ version
IsWritten (Drop count) = Unit {0}

-- a message that no node writes: an empty one, or one with another first byte
abbrev pub IsBadMessage : List ℕ → Type 0
IsBadMessage bytes = HasHead 0 0 bytes ⊎ ((5 < length bytes) × (slice_index bytes 0 ≡ 0) × (slice_index bytes 5 ≢ version))

-- the head and the first byte of a message that a node writes and no entry can hold, which has so many bytes with its head
pub record HasLongHead (size : ℕ) (bytes : List ℕ) : Type 0 where
  pub long : IsTooLong bytes
  pub is : size ≡ 5 + long.number
  pub some : 5 < length bytes
  pub first : slice_index bytes 5 ≡ version

-- what a node writes and no entry can hold, and the four bytes of a size can tell of
abbrev pub IsOverlong : List ℕ → Type 0
IsOverlong message = (65531 < length message) × (length message < 2 ^ 32) × IsWritten (Message message)

-- bytes that stand for entries that a node writes: those of an entry for it, and those of a message that no entry can hold for its fragments; instead of one that is longer than the longest stands a drop record of 1
pub data IsPiece (longest : ℕ) : List ℕ → List Entry → Type 0 where
  an_entry : (e : Entry) → IsLawful e → IsWritten e → IsPiece longest (spelling e) (e ∷ [])
  long : (message : List ℕ) → IsOverlong message → length message ≤ longest → IsPiece longest (spelling (Message message)) (split message)
  too_long : (message : List ℕ) → IsOverlong message → longest < length message → IsPiece longest (spelling (Message message)) (Drop 1 ∷ [])

-- bytes that stand for entries, one piece after another
pub data ArePieces (longest : ℕ) : List ℕ → List Entry → Type 0 where
  none : ArePieces longest [] []
  piece : (bytes one : List ℕ) (es some : List Entry) → ArePieces longest bytes es → IsPiece longest one some → ArePieces longest (bytes ++ one) (es ++ some)

-- what came of a stream: bytes that stand for entries, and a part after them
pub record Brings (longest : ℕ) (come : List ℕ) (entries : List Entry) (part : List ℕ) : Type 0 where
  pub front : List ℕ
  pub are : ArePieces longest front entries
  pub is : come ≡ front ++ part

-- a message that no entry can hold, and not all its bytes
pub record IsLongCut (bytes : List ℕ) : Type 0 where
  pub head : IsTooLong bytes
  pub short : length bytes < 5 + head.number

-- no whole entry, nor what can't begin one that a node writes
abbrev pub IsUnfinished : List ℕ → Type 0
IsUnfinished part = part ≡ [] ⊎ ((IsTruncated part ⊎ IsLongCut part) × (5 < length part → slice_index part 5 ≡ version))

-- a message that no entry can hold begins these, and it is not longer than the longest
abbrev pub BeginsLong : ℕ → List ℕ → Type 0
BeginsLong longest bytes = (size : ℕ) × HasLongHead size bytes × (size ≤ 5 + longest)

-- the fault of what stands at an offset; memory is only wanted for the fragments of a message
abbrev pub IsFaultAt : ℕ → ImportFault → ℕ → List ℕ → Type 0
IsFaultAt longest (faults.BadOp place) at part = (place ≡ at) × IsBadOp part
IsFaultAt longest (faults.ZeroDrop place) at part = (place ≡ at) × IsZeroDrop part
IsFaultAt longest (faults.BadMessage place) at part = (place ≡ at) × IsBadMessage part
IsFaultAt longest faults.NoMemory at part = BeginsLong longest part
IsFaultAt longest _ at part = ⊥

-- the most bytes of a read
abbrev pub longest_read : ℕ
longest_read = 65536

-- what an import sees of its stream and of its host
pub record Outside : Type 0 where
  -- the bytes that are still to come, where they are known
  pub remaining : Option (List ℕ)
  -- how many reads gave bytes
  pub reads : ℕ
  -- the reads that were noted, and the times at which its clock stood, the newest first
  pub observed : Observations

abbrev pub outside : Option (List ℕ) → ℕ → Observations → Outside
outside remaining reads observed = record { remaining = remaining; reads = reads; observed = observed }

-- this came in one read, which was noted; none at the end, or where the read failed
pub record Comes (was is : Outside) (chunk : List ℕ) : Type 0 where
  pub consumes : Consumes was.remaining is.remaining chunk
  pub most : length chunk ≤ longest_read
  pub reads : is.reads ≡ was.reads + min (length chunk) 1
  pub observed : is.observed ≡ with_read chunk was.observed

-- this many bytes came in one read, behind these bytes
pub record CameBehind (was is : Outside) (n : ℕ) (before after : List ℕ) : Type 0 where
  pub chunk : List ℕ
  pub count : length chunk ≡ n
  pub comes : Comes was is chunk
  pub at_end : n ≡ 0 → IsAtEnd is.remaining
  pub bytes : after ≡ before ++ chunk
