-- Atoms without the characters that govern a terminal.
use Rattle.std.specs.Prelude.{ℕ, ◌+◌, ◌/◌, ◌%◌, Bool, nat_eq, nat_lt, nat_le, ◌&&◌, if◌then◌else◌, List, [], ◌∷◌, ◌++◌}
use Rattle.trace_text.specs.AtomText.{atom_text}

-- the control characters U+0080 to U+009F, of each of which these are the bytes in UTF-8
abbrev pub is_control : ℕ → ℕ → Bool
is_control a b = nat_eq a 194 && (nat_le 128 b && nat_lt b 160)

-- the number of such a character in octal, after a backslash
abbrev pub octal : ℕ → List ℕ
octal c = 92 ∷ (48 + c / 64) ∷ (48 + c / 8 % 8) ∷ (48 + c % 8) ∷ []

-- a text in which these characters stand by their numbers, as OTP writes them in an atom
abbrev pub without_controls : List ℕ → List ℕ
without_controls [] = []
without_controls (a ∷ []) = a ∷ []
without_controls (a ∷ b ∷ bytes) = if is_control a b then octal b ++ without_controls bytes else a ∷ without_controls (b ∷ bytes)

-- an atom in a readable listing
abbrev pub name_text : List ℕ → List ℕ
name_text text = without_controls (atom_text text)
