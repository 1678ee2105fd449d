-- Where in a stream the entries end that it gave, and how many of them a store keeps.
use Rattle.std.specs.Prelude.{◌≡◌, ◌⊎◌, ℕ, ◌+◌, ◌-◌, ◌<◌, Bool, true, false, List, [], ◌∷◌, ◌++◌, length}
use Rattle.std.specs.List.{All, Contains}
use Rattle.circular_buffer.specs.Buffer.{keep_last}
use Rattle.entry_codec.specs.Entries.{Entry}
use Rattle.trace_store.specs.Disk.{Image}
use Rattle.segment.specs.Specification.{Spec}
use Rattle.recovery.specs.Items.{Item, kept}
use Rattle.recovery.specs.Views.{View, extend, total}
use Rattle.recovery.specs.Stores.{Reads, Blank, Holds}
use Rattle.trace_port.specs.Sound.{ReadsAs}
use Rattle.trace_port.specs.Runs.{Call, accepted}
use Rattle.import.specs.declared.incoming.Incoming.{Incoming}
use Rattle.import.specs.declared.incoming.Mark.{Mark}
use Rattle.import.specs.Incoming.{IsPiece, ArePieces}
use Rattle.import.specs.Parts.{giving}

abbrev pub mark : ℕ → ℕ → Mark
mark entries bytes = record { entries = entries; bytes = bytes }

-- none of the entries that the bytes begin with, or the first ones of a message's fragments there, not all
pub data AreBegun (longest : ℕ) : List ℕ → List Entry → Type 0 where
  none : (bytes : List ℕ) → AreBegun longest bytes []
  some : (one rest : List ℕ) (begun left : List Entry) → IsPiece longest one (begun ++ left) → 0 < length left → AreBegun longest (one ++ rest) begun

-- the first so many entries of these are those that stand in the first so many bytes of what came, and those that the bytes after them begin with
pub record IsMark (longest : ℕ) (come : List ℕ) (given : List Entry) (m : Mark) : Type 0 where
  pub front : List ℕ
  pub rest : List ℕ
  pub first : List Entry
  pub begun : List Entry
  pub more : List Entry
  pub come_is : come ≡ front ++ rest
  pub given_is : given ≡ (first ++ begun) ++ more
  pub are : ArePieces longest front first
  pub are_begun : AreBegun longest rest begun
  pub bytes : length front ≡ m.bytes
  pub entries : length (first ++ begun) ≡ m.entries

-- one more entry was noted: where it ends, or where its message begins, of which fragments are left
pub record IsNoted (old new : Incoming) : Type 0 where
  pub given : new.given ≡ old.given + 1
  pub most : ℕ
  pub marks : new.marks.items ≡ keep_last most (old.marks.items ++ mark new.given (new.place - giving new) ∷ [])
  pub longest : new.longest ≡ old.longest

-- none was
pub record AreSameMarks (old new : Incoming) : Type 0 where
  pub given : new.given ≡ old.given
  pub marks : new.marks.items ≡ old.marks.items
  pub longest : new.longest ≡ old.longest

-- one more entry was noted, or none was
abbrev pub AreMarked : Bool → Incoming → Incoming → Type 0
AreMarked true old new = IsNoted old new
AreMarked false old new = AreSameMarks old new

-- it is known that of so many entries those of whole messages end after so many bytes
abbrev pub HasMark : Incoming → ℕ → ℕ → Type 0
HasMark incoming entries bytes = ((entries ≡ 0) × (bytes ≡ 0)) ⊎ Contains incoming.marks.items (mark entries bytes)

-- the marks are those of the entries that were given, and these are what the port accepted
pub record IsMarked (longest : ℕ) (incoming : Incoming) (come : List ℕ) (given : List Entry) (calls : List Call) : Type 0 where
  pub count : incoming.given ≡ length given
  pub each : All (IsMark longest come given) incoming.marks.items
  pub items : kept (accepted calls) ≡ given

-- the marks are those of these entries, and maybe of one that was refused
pub record HasMarks (longest : ℕ) (incoming : Incoming) (come : List ℕ) (given : List Entry) : Type 0 where
  pub more : List Entry
  pub each : All (IsMark longest come (given ++ more)) incoming.marks.items

-- a store has so many entries in all; a blank one has none
pub data HasTotal (image : Image) (n : ℕ) : Type 0 where
  whole : (spec : Spec) (v : View) (sealed : Bool) → Reads image (Holds spec v sealed) → total v ≡ n → HasTotal image n
  blank : Reads image Blank → n ≡ 0 → HasTotal image n

-- a store has, after what was there, so many entries: exactly those of the first so many bytes of what came, and maybe the first fragments, not all, of the message after them
pub record KeepsFirst (longest : ℕ) (spec : Spec) (v0 : View) (come : List ℕ) (entries bytes : ℕ) (image : Image) : Type 0 where
  pub items : List Item
  pub sealed : Bool
  pub front : List ℕ
  pub rest : List ℕ
  pub first : List Entry
  pub begun : List Entry
  pub reads : ReadsAs spec (extend spec v0 items) sealed image
  pub come_is : come ≡ front ++ rest
  pub bytes_are : length front ≡ bytes
  pub kept_are : kept items ≡ first ++ begun
  pub are : ArePieces longest front first
  pub are_begun : AreBegun longest rest begun
  pub entries_are : length (kept items) ≡ entries
