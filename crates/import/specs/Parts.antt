-- The part of a stream that has come and isn't given.
use Rattle.std.specs.Prelude.{◌≡◌, ℕ, ◌+◌, ◌-◌, ◌<◌, ◌≤◌, ◌⊎◌, Bool, true, false, Option, Some, None, List, [], ◌∷◌, ◌++◌, length, take, drop, slice_index}
use Rattle.entry_codec.specs.Entries.{Entry, Message, Drop, IsLawful}
use Rattle.entry_codec.specs.Outcomes.{IsTruncated, IsTooLong}
use Rattle.entry_codec.specs.declared.reading.Shape.{Shape}
use Rattle.entry_codec.specs.declared.reading.Shape.TheVariants as shapes
use Rattle.long_messages.specs.Fragments.{fragment_count, split}
use Rattle.import.specs.declared.incoming.Incoming.{Incoming}
use Rattle.import.specs.declared.long.LongMessage.{LongMessage}
use Rattle.import.specs.Gathered.{count_left}
use Rattle.import.specs.Incoming.{version, HasLongHead, IsPiece, ArePieces, Brings, IsUnfinished}

-- the bytes in memory that aren't given
abbrev pub waiting : Incoming → List ℕ
waiting s = take (s.to - s.from) (drop s.from s.bytes.items)

-- an entry of this shape at the front of some bytes is one that a node writes
abbrev pub IsWrittenAs : Shape → List ℕ → Type 0
IsWrittenAs (shapes.Message size) bytes = (0 < size) × (slice_index bytes 5 ≡ version)
IsWrittenAs (shapes.Drop count) bytes = Unit {0}

-- no entry that has come whole, nor what can't begin one that a node writes
abbrev pub IsNotWhole : List ℕ → Type 0
IsNotWhole bytes = bytes ≡ [] ⊎ ((IsTruncated bytes ⊎ IsTooLong bytes) × (5 < length bytes → slice_index bytes 5 ≡ version))

-- an entry of this shape that ends at an offset
abbrev pub ending_at : Shape → ℕ → List ℕ → Entry
ending_at (shapes.Message size) end bytes = Message (take size (drop (end - size) bytes))
ending_at (shapes.Drop count) end bytes = Drop count

-- so many fragments, the last ones of a message
abbrev pub last_of : Option ℕ → List ℕ → List Entry
last_of None message = []
last_of (Some n) message = drop (fragment_count (length message) - n) (split message)

-- the fragments of a message that came whole that aren't given yet
abbrev pub left_of : LongMessage → List Entry
left_of m = last_of m.left (drop 5 m.bytes.items)

-- so many bytes, where some entries are left
abbrev pub giving_for : List Entry → ℕ → ℕ
giving_for [] size = 0
giving_for (e ∷ left) size = size

-- how many bytes before the part stand for entries of which some are left
abbrev pub giving : Incoming → ℕ
giving s = giving_for (left_of s.message) (length s.message.bytes.items)

-- the entry that was found last
abbrev pub newest_in : Option ℕ → Entry → Entry → Entry
newest_in None e fragment = e
newest_in (Some n) e fragment = fragment

abbrev pub newest_of : Incoming → Entry
newest_of s = newest_in s.message.left (ending_at s.newest s.from s.bytes.items) (Message s.message.fragment.items)

-- a part of which so many bytes were taken, of a message that no entry can hold, and these are in memory; those taken are kept of a message that is not longer than the longest
pub data Keeps (longest : ℕ) (gathered : List ℕ) : Option ℕ → ℕ → List ℕ → List ℕ → Type 0 where
  entry : (part : List ℕ) → Keeps longest gathered None 0 part part
  taking : (size : ℕ) (over part : List ℕ) → HasLongHead size (over ++ part) → length over < size → (size ≤ 5 + longest → gathered ≡ over) → Keeps longest gathered (Some size) (length over) part (over ++ part)

-- this part has come, and no entry of it is found
abbrev pub IsPart : Incoming → List ℕ → Type 0
IsPart s part = Keeps s.longest s.message.bytes.items s.long s.taken (waiting s) part

-- the next entry was taken: the first of a piece at the front of a part, or the first of those that were left
pub data TakesNext (old new : Incoming) (e : Entry) : List ℕ → Type 0 where
  of_piece : (one rest : List ℕ) → left_of old.message ≡ [] → IsPiece old.longest one (e ∷ left_of new.message) → giving new ≡ giving_for (left_of new.message) (length one) → IsPart new rest → new.place ≡ old.place + length one → TakesNext old new e (one ++ rest)
  of_left : (part : List ℕ) → left_of old.message ≡ e ∷ left_of new.message → giving new ≡ giving_for (left_of new.message) (giving old) → IsPart new part → new.place ≡ old.place → TakesNext old new e part

-- a part waits for the rest of an entry
pub record Waits (old new : Incoming) (part : List ℕ) : Type 0 where
  pub unfinished : IsUnfinished part
  pub none_left : left_of old.message ≡ []
  pub none_now : left_of new.message ≡ []
  pub left : IsPart new part
  pub place : new.place ≡ old.place

-- whether an entry was found, and what is left of each part
abbrev pub Finds : Bool → Incoming → Incoming → Type 0
Finds true old new = (part : List ℕ) → IsPart old part → TakesNext old new (newest_of new) part
Finds false old new = (part : List ℕ) → IsPart old part → Waits old new part

-- how many bytes and fragments are there that may give entries
abbrev pub ahead : Incoming → ℕ
ahead s = s.taken + length (waiting s) + count_left s.message.left

-- a lawful entry was found, and fewer bytes and fragments are ahead
pub record IsFurther (old new : Incoming) : Type 0 where
  pub lawful : IsLawful (newest_of new)
  pub fewer : ahead new < ahead old

-- what came of a stream: bytes that stand for entries, of which some are left, and so many of them stand for these and others that were given
pub record IsWithin (longest : ℕ) (come : List ℕ) (given left : List Entry) (size : ℕ) (part : List ℕ) : Type 0 where
  pub front : List ℕ
  pub one : List ℕ
  pub first : List Entry
  pub begun : List Entry
  pub are : ArePieces longest front first
  pub piece : IsPiece longest one (begun ++ left)
  pub given_is : given ≡ first ++ begun
  pub come_is : come ≡ front ++ (one ++ part)
  pub sized : length one ≡ size

-- what came of a stream: bytes that stand for entries, of which these are given and those are left, and a part after them
abbrev pub Stands : ℕ → List ℕ → List Entry → List Entry → ℕ → List ℕ → Type 0
Stands longest come given [] size part = Brings longest come given part
Stands longest come given (e ∷ left) size part = IsWithin longest come given (e ∷ left) size part
