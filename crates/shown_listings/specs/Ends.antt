-- These definitions say what a text has up to its first empty line.
use Rattle.std.specs.Prelude.{◌≡◌, ◌≢◌, ◌<◌, ℕ, suc, Bool, true, false, ◌&&◌, ◌||◌, Option, Some, None, List, [], ◌∷◌, ◌++◌, ◌==◌, length, if◌then◌else◌}
use Rattle.std.specs.List.{All}
use Rattle.std.specs.Io.KnownBytes.{Appends}

-- A byte ends an empty line where it is a line feed and a line begins at it.
abbrev pub ends_empty : Bool → ℕ → Bool
ends_empty fresh byte = fresh && byte == 10

-- Some byte of a text ends an empty line, where the text comes at the beginning of a line, or within one.
unfoldable pub has_empty : Bool → List ℕ → Bool
has_empty fresh [] = false
has_empty fresh (byte ∷ bytes) = ends_empty fresh byte || has_empty (byte == 10) bytes

-- This is what stands before the first such byte, or the whole text where there is none.
unfoldable pub before_empty : Bool → List ℕ → List ℕ
before_empty fresh [] = []
before_empty fresh (byte ∷ bytes) = if ends_empty fresh byte then [] else byte ∷ before_empty (byte == 10) bytes

-- A line begins behind the text.
unfoldable pub is_fresh_behind : Bool → List ℕ → Bool
is_fresh_behind fresh [] = fresh
is_fresh_behind fresh (byte ∷ bytes) = is_fresh_behind (byte == 10) bytes

-- The known bytes that a writer held come after a number that tells how many they are.
abbrev pub counted : Option (List ℕ) → List ℕ
counted None = 0 ∷ []
counted (Some bytes) = suc (length bytes) ∷ bytes

-- A writer up to an empty line holds, as a writer, what the one below held when it was made, and what it was given since.
unfoldable pub end_contents : Option (List ℕ) → List ℕ → Option (List ℕ)
end_contents start given = Some (counted start ++ given)

-- Where a text came to such a writer, the one below it has what stands before the text's first empty line after what it held, and
-- the writer has ended exactly where there is one.
pub record Passed (ended : Bool) (text : List ℕ) (was now : Option (List ℕ)) : Type 0 where
  pub shown : Appends was now (before_empty true text)
  pub is : ended ≡ has_empty true text

-- A line that isn't empty has a byte, and none of its bytes is a line feed.
pub record IsFilledLine (line : List ℕ) : Type 0 where
  pub some : 0 < length line
  pub no_feed : All (λ byte. byte ≢ 10) line

-- The text of some lines has each of them in turn, with a line feed behind it.
abbrev pub text_of_lines : List (List ℕ) → List ℕ
text_of_lines [] = []
text_of_lines (line ∷ lines) = line ++ 10 ∷ text_of_lines lines

-- The text is whole lines, none of which is empty.
pub record IsFilledLines (text : List ℕ) : Type 0 where
  pub lines : List (List ℕ)
  pub each : All IsFilledLine lines
  pub is : text ≡ text_of_lines lines
