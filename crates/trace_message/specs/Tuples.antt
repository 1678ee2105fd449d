-- Tuples of terms.
use Rattle.std.specs.Prelude.{ℕ, pos, List, [], ◌∷◌}
use Rattle.trace_terms.specs.Data.{Data, int, atom, tuple}
use Rattle.trace_terms.specs.View.{members_of}

-- {A,B,..}
abbrev pub tuple_of : List Data → Data
tuple_of parts = tuple (members_of parts)

-- {A,B}
abbrev pub pair_of : Data → Data → Data
pair_of first second = tuple_of (first ∷ second ∷ [])

-- {A,B,C}
abbrev pub triple_of : Data → Data → Data → Data
triple_of first second third = tuple_of (first ∷ second ∷ third ∷ [])

-- an integer from 0 on
abbrev pub number : ℕ → Data
number n = int (pos n)

-- {M,F,X}: a function, and its arguments or their number
abbrev pub function_of : List ℕ → List ℕ → Data → Data
function_of mod_name fun_name last = triple_of (atom mod_name) (atom fun_name) last

-- {Class,Value}
abbrev pub reason_of : List ℕ → Data → Data
reason_of class value = pair_of (atom class) value
