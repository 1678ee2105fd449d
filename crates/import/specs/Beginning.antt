-- How an import begins: the first read past the bytes that it is to skip.
use Rattle.std.specs.Prelude.{◌≡◌, ◌⊎◌, ℕ, ◌+◌, ◌≤◌, Bool, true, false, Option, Some, None, List, [], length, Result, Ok, Err}
use Rattle.std.specs.Io.KnownBytes.{IsAtEnd}
use Rattle.import.specs.declared.fault.ImportFault.{ImportFault}
use Rattle.import.specs.declared.fault.ImportFault.TheVariants as faults
use Rattle.import.specs.declared.incoming.Incoming.{Incoming}
use Rattle.import.specs.Incoming.{Outside, Comes}
use Rattle.import.specs.Importing.{IsRead}
use Rattle.import.specs.Parts.{IsPart}

-- so many bytes of a stream were passed over, by reads that were noted
pub data Skips : ℕ → Outside → Outside → Type 0 where
  none : {was : Outside} → Skips 0 was was
  more : {was mid is : Outside} {n : ℕ} (chunk : List ℕ) → Skips n was mid → Comes mid is chunk → Skips (n + length chunk) was is

-- one read gave these bytes, and nothing else has come
pub record HasCome (was is : Outside) (incoming : Incoming) (chunk : List ℕ) : Type 0 where
  pub read : IsRead chunk
  pub comes : Comes was is chunk
  pub is_part : IsPart incoming chunk
  pub place : incoming.place ≡ 0
  pub none_left : incoming.message.left ≡ None
  pub none_given : incoming.given ≡ 0
  pub no_marks : incoming.marks.items ≡ []

-- so many bytes were passed over, and then one read gave some; the longest message that is kept has so many
pub record Begins (skip longest : ℕ) (was is : Outside) (incoming : Incoming) : Type 0 where
  pub mid : Outside
  pub chunk : List ℕ
  pub skips : Skips skip was mid
  pub came : HasCome mid is incoming chunk
  pub longest_is : incoming.longest ≡ longest

-- a stream ended before it gave a byte past so many
pub record EndsWithin (skip : ℕ) (was is : Outside) : Type 0 where
  pub count : ℕ
  pub within : count ≤ skip
  pub skips : Skips count was is
  pub at_end : IsAtEnd is.remaining

-- a read failed before it gave a byte past so many, or memory was refused
pub record IsUnread (skip : ℕ) (was is : Outside) (fault : ImportFault) : Type 0 where
  pub count : ℕ
  pub within : count ≤ skip
  pub skips : Skips count was is
  pub why : (fault ≡ faults.Read) ⊎ (fault ≡ faults.NoMemory)

-- so many bytes were passed over, or a stream ended before
abbrev pub SkipsOrEnds : Bool → ℕ → Outside → Outside → Type 0
SkipsOrEnds true skip was is = Skips skip was is
SkipsOrEnds false skip was is = EndsWithin skip was is

-- what came of the first read past so many bytes
abbrev pub HasBegun : ℕ → ℕ → Outside → Outside → Result (Option Incoming) ImportFault → Type 0
HasBegun skip longest was is (Ok (Some incoming)) = Begins skip longest was is incoming
HasBegun skip longest was is (Ok None) = EndsWithin skip was is
HasBegun skip longest was is (Err fault) = IsUnread skip was is fault
