-- Files that aren't a trace's.
use Rattle.std.specs.Prelude.{◌≡◌, ◌⊎◌, ℕ, ◌<◌, ◌≤◌, List, [], ◌∷◌, length, take, drop, slice_index}
use Rattle.entry_codec.specs.Entries.{Entry, Message, Drop}
use Rattle.entry_codec.specs.Outcomes.{Begins}

-- DBT1 or DBT2 stands at 1 to 4
abbrev pub HasMagic : List ℕ → Type 0
HasMagic text =
    (take 4 (drop 1 text) ≡ 68 ∷ 66 ∷ 84 ∷ 49 ∷ []) ⊎ (take 4 (drop 1 text) ≡ 68 ∷ 66 ∷ 84 ∷ 50 ∷ [])

-- an entry as a node's stream has them: a drop record, or a Message that begins with the byte of the External Term Format
abbrev pub IsOfStream : Entry → Type 0
IsOfStream (Message bytes) = slice_index bytes 0 ≡ 131
IsOfStream (Drop count) = Unit {0}

-- a whole lawful entry of these begins the text
pub record BeginsStream (text : List ℕ) : Type 0 where
  pub entry : Entry
  pub kind : IsOfStream entry
  pub begins : Begins entry text

-- two bytes or more, no magic, and a first byte other than 00 and 01, or the first entry of a stream
pub record IsForeign (text : List ℕ) : Type 0 where
  pub some : 2 ≤ length text
  pub no_magic : ¬ HasMagic text
  pub why : (1 < slice_index text 0) ⊎ BeginsStream text

-- a whole Message that begins with 131 begins the text: what an entry's bytes leave after a 00
pub record BeginsMessage (text : List ℕ) : Type 0 where
  pub bytes : List ℕ
  pub version : slice_index bytes 0 ≡ 131
  pub begins : Begins (Message bytes) text

-- what a trace's own files are at any moment: fewer than two bytes, the magic, or a closed gate at the front
abbrev pub IsTame : List ℕ → Type 0
IsTame text = (length text < 2) ⊎ HasMagic text ⊎ (slice_index text 0 ≡ 0)
