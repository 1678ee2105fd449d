-- What `==` says of terms, pids and atoms.
use Rattle.std.specs.Prelude.{◌≡◌, ◌↔◌, ℕ, List, Bool, IsTrue}
use Rattle.trace_terms.specs.declared.term.Pid.{Pid}
use Rattle.trace_terms.specs.declared.term.Term.{Term}
use Rattle.trace_terms.specs.View.{view}

-- a test that answers true exactly where two terms are the same
abbrev pub TellsTerms : (Term → Term → Bool) → Type 0
TellsTerms test = (a b : Term) → IsTrue (test a b) ↔ (view a ≡ view b)

-- a test that answers true exactly where two pids have the same fields
abbrev pub TellsPids : (Pid → Pid → Bool) → Type 0
TellsPids test = (p q : Pid) → IsTrue (test p q) ↔ (p ≡ q)

-- a test that answers true exactly where two atoms have the same text
abbrev pub TellsAtoms : (List ℕ → List ℕ → Bool) → Type 0
TellsAtoms test = (s t : List ℕ) → IsTrue (test s t) ↔ (s ≡ t)
