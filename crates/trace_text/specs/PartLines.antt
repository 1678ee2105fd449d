-- The lines of parts of long messages that aren't there whole.
use Rattle.std.specs.Prelude.{ℕ, Option, Some, None, List, [], ◌∷◌, ◌++◌, codes, if◌then◌else◌}
use Rattle.std.specs.Fmt.{decimal}
use Rattle.trace_text.specs.declared.style.Notation.{Notation}
use Rattle.trace_text.specs.declared.style.Notation.TheVariants.{Text, Json}
use Rattle.trace_text.specs.Choosing.{Asks}
use Rattle.trace_text.specs.Lines.{asks_part, end_mark, line_text}
use Rattle.trace_text.specs.Objects.{Member, of_number, of_text, object_line}

-- which part it is, of how many, and how many bytes the message has
abbrev pub part_told : ℕ → ℕ → ℕ → List ℕ
part_told part of size =
    codes "part " ++ decimal part ++ codes " of " ++ decimal of ++ codes " of a message of " ++ decimal size ++ codes " bytes"

abbrev pub part_members : ℕ → ℕ → ℕ → ℕ → List Member
part_members n part of size =
    of_number (codes "n") n ∷ of_text (codes "kind") (codes "part") ∷ of_number (codes "part") part ∷ of_number (codes "of") of ∷ of_number (codes "size") size ∷ []

-- what stands for it
abbrev pub part_row : Notation → ℕ → ℕ → ℕ → ℕ → List ℕ
part_row Text n part of size = line_text n (part_told part of size)
part_row Json n part of size = object_line (part_members n part of size)

-- what a listing has of it
abbrev pub part_line : Notation → Option Asks → ℕ → ℕ → ℕ → ℕ → List ℕ
part_line notation None n part of size = part_row notation n part of size
part_line notation (Some asks) n part of size =
    (if asks_part asks n then part_row notation n part of size else []) ++ end_mark asks n
