-- How a script is read, line by line.
use Rattle.std.specs.Prelude.{◌≡◌, ◌≢◌, ◌⊎◌, ℕ, ◌<◌, ◌≤◌, Bool, true, false, Option, Some, None, Result, Ok, Err, List, [], ◌∷◌, ◌++◌, length, slice_get, slice_index, ◌+◌, ◌-◌, All, OnSome}
use Rattle.std.specs.Str.{IsUtf8}
use Rattle.std.specs.Io.{StopsAt}
use Rattle.std.specs.Io.KnownBytes.{Consumes, IsAtEnd}
use Rattle.script_lines.specs.Lines.{IsOfRecord}
use Rattle.script_lines.specs.Table.{Spells}
use Rattle.script_lines.specs.declared.line.Line.{Line}
use Rattle.script_lines.specs.declared.fault.ScriptFault.{ScriptFault}
use Rattle.script_lines.specs.declared.fault.ScriptFault.TheVariants as faults

-- how far a script was read: how many lines were taken off its reader, and which bytes that has left, where they are known
pub record Progress : Type 0 where
  pub lines : ℕ
  pub left : Option (List ℕ)

abbrev pub progress : ℕ → Option (List ℕ) → Progress
progress lines left = record { lines = lines; left = left }

-- a reader that had known bytes has none left
abbrev pub IsUsedUp : Option (List ℕ) → Option (List ℕ) → Type 0
IsUsedUp was is = OnSome was (IsAtEnd is)

-- a line more was taken off what a reader has left: its text, which has no line break, and then one; the last line may end without
pub record IsTaken (was is : Progress) (text : List ℕ) : Type 0 where
  pub bytes : List ℕ
  pub consumes : Consumes was.left is.left bytes
  pub no_break : All (λ b. b ≢ 10) text
  pub ends : (bytes ≡ text ++ 10 ∷ []) ⊎ ((bytes ≡ text) × (0 < length text) × IsUsedUp was.left is.left)
  pub counts : is.lines ≡ was.lines + 1

-- what was read of a line: no line break but at its end, and that, or so much as shows that it is too long, or all that was left
pub record IsReadLine (was is : Option (List ℕ)) (bytes : List ℕ) : Type 0 where
  pub stops : StopsAt bytes 10
  pub ends : (300000 < length bytes) ⊎ ((0 < length bytes) × (slice_index bytes (length bytes - 1) ≡ 10)) ⊎ IsUsedUp was is

-- lines were taken, one after another
pub data AreTaken (was : Progress) : List (List ℕ) → Progress → Type 0 where
  none : AreTaken was [] was
  more : {texts : List (List ℕ)} {mid is : Progress} (text : List ℕ) → AreTaken was texts mid → IsTaken mid is text → AreTaken was (texts ++ text ∷ []) is

-- so much of a line more was taken as shows that it is too long
pub record IsTooLong (was is : Progress) (text : List ℕ) : Type 0 where
  pub long : 300000 < length text
  pub no_break : All (λ b. b ≢ 10) text
  pub consumes : Consumes was.left is.left text
  pub counts : is.lines ≡ was.lines + 1

-- nothing more was taken, since there is nothing left
pub record IsOver (was is : Progress) : Type 0 where
  pub no_more : Consumes was.left is.left []
  pub used_up : IsUsedUp was.left is.left
  pub counts : is.lines ≡ was.lines

-- a read failed, or there was no memory
abbrev pub IsUnread : ScriptFault → Type 0
IsUnread (faults.BadCommand number) = ⊥
IsUnread faults.Read = Unit {0}
IsUnread faults.TooLong = ⊥
IsUnread faults.NoMemory = Unit {0}

-- the fault isn't that a line is refused
abbrev pub IsOfScript : ScriptFault → Type 0
IsOfScript (faults.BadCommand number) = ⊥
IsOfScript faults.Read = Unit {0}
IsOfScript faults.TooLong = Unit {0}
IsOfScript faults.NoMemory = Unit {0}

-- of so many bytes that might come, what was taken leaves so many
abbrev pub TakesOf : ℕ → ℕ → Option (List ℕ) → Option (List ℕ) → Type 0
TakesOf before now was is = (bytes : List ℕ) × Consumes was is bytes × (now + length bytes ≡ before)

-- more was taken than the bytes that might come
abbrev pub TakesMore : ℕ → Option (List ℕ) → Option (List ℕ) → Type 0
TakesMore before was is = (bytes : List ℕ) × Consumes was is bytes × (before < length bytes)

-- how many bytes may come before and after a line: exactly where more was taken the script is too long; nothing is said after a read that failed
abbrev pub TellsRoom : {A : Type 0} → ℕ → ℕ → Option (List ℕ) → Option (List ℕ) → Result A ScriptFault → Type 0
TellsRoom before now was is (Ok found) = TakesOf before now was is
TellsRoom before now was is (Err (faults.BadCommand number)) = TakesOf before now was is
TellsRoom before now was is (Err faults.Read) = Unit {0}
TellsRoom before now was is (Err faults.TooLong) = TakesMore before was is
TellsRoom before now was is (Err faults.NoMemory) = Unit {0}

-- a line was taken, or so much as shows that it is too long; or there was none left
abbrev pub Advances : Progress → Progress → List ℕ → Result Bool ScriptFault → Type 0
Advances was is text (Ok true) = IsTaken was is text ⊎ IsTooLong was is text
Advances was is text (Ok false) = IsOver was is
Advances was is text (Err fault) = ((part : List ℕ) × Consumes was.left is.left part) × IsOfScript fault

-- a line that says nothing: it is empty or a remark
pub record IsSilent (text : List ℕ) : Type 0 where
  pub utf8 : IsUtf8 text
  pub short : length text ≤ 300000
  pub says_nothing : (text ≡ []) ⊎ (slice_get text 0 ≡ Some 35)

-- the text of a line that may stand in a script, in one for a desk alone or in any
pub record IsCommand (of_desk : Bool) (line : Line) (text : List ℕ) : Type 0 where
  pub utf8 : IsUtf8 text
  pub short : length text ≤ 300000
  pub spells : Spells line text
  pub allowed : of_desk ≡ true → IsOfRecord line

-- the text of a line that is refused: it has too many bytes or is no UTF-8, or it says something and spells no line that may stand there
pub data IsRefused (of_desk : Bool) (text : List ℕ) : Type 0 where
  too_long : 300000 < length text → IsRefused of_desk text
  no_text : (IsUtf8 text → ⊥) → IsRefused of_desk text
  no_line : (IsSilent text → ⊥) → ((line : Line) → IsCommand of_desk line text → ⊥) → IsRefused of_desk text

-- what is told of the text of a line that has this number
abbrev pub TellsLine : Bool → ℕ → List ℕ → Result (Option Line) ScriptFault → Type 0
TellsLine of_desk number text (Ok (Some line)) = IsCommand of_desk line text
TellsLine of_desk number text (Ok None) = IsSilent text
TellsLine of_desk number text (Err (faults.BadCommand bad)) = (bad ≡ number) × IsRefused of_desk text
TellsLine of_desk number text (Err faults.Read) = ⊥
TellsLine of_desk number text (Err faults.TooLong) = ⊥
TellsLine of_desk number text (Err faults.NoMemory) = Unit {0}

-- lines that say nothing were taken, and then the text of this line
pub record HasNext (of_desk : Bool) (was is : Progress) (line : Line) : Type 0 where
  pub silent : List (List ℕ)
  pub each : All IsSilent silent
  pub mid : Progress
  pub before : AreTaken was silent mid
  pub text : List ℕ
  pub taken : IsTaken mid is text
  pub command : IsCommand of_desk line text

-- lines that say nothing were taken, and then there was nothing left
pub record HasEnded (was is : Progress) : Type 0 where
  pub silent : List (List ℕ)
  pub each : All IsSilent silent
  pub mid : Progress
  pub before : AreTaken was silent mid
  pub over : IsOver mid is

-- the text of a line that is refused was taken, and the fault has its number; or a read failed, the script is too long, or there was no memory
pub data Breaks (of_desk : Bool) (mid is : Progress) : ScriptFault → Type 0 where
  refused : (text : List ℕ) → IsRefused of_desk text → IsTaken mid is text ⊎ IsTooLong mid is text → Breaks of_desk mid is (faults.BadCommand is.lines)
  unread : (part : List ℕ) → Consumes mid.left is.left part → Breaks of_desk mid is faults.Read
  too_much : (part : List ℕ) → Consumes mid.left is.left part → Breaks of_desk mid is faults.TooLong
  no_memory : (part : List ℕ) → Consumes mid.left is.left part → Breaks of_desk mid is faults.NoMemory

-- the same, after lines that say nothing
pub record HasStopped (of_desk : Bool) (was is : Progress) (fault : ScriptFault) : Type 0 where
  pub silent : List (List ℕ)
  pub each : All IsSilent silent
  pub mid : Progress
  pub before : AreTaken was silent mid
  pub breaks : Breaks of_desk mid is fault

-- what is told of the next line
abbrev pub TellsNext : Bool → Progress → Progress → Result (Option Line) ScriptFault → Type 0
TellsNext of_desk was is (Ok (Some line)) = HasNext of_desk was is line
TellsNext of_desk was is (Ok None) = HasEnded was is
TellsNext of_desk was is (Err fault) = HasStopped of_desk was is fault

-- the lines that a script gave, one after another
pub data AreGiven (of_desk : Bool) (was : Progress) : List Line → Progress → Type 0 where
  none : AreGiven of_desk was [] was
  more : {before : List Line} {mid is : Progress} (line : Line) → AreGiven of_desk was before mid → HasNext of_desk mid is line → AreGiven of_desk was (before ++ line ∷ []) is
