-- What a term is, without where it lies in memory.
use Rattle.std.specs.Prelude.{ℕ, suc, max, ℤ, List}
use Rattle.trace_terms.specs.declared.term.Pid.{Pid}

mutual
  -- a term: an atom by the bytes of its text, a pid by its fields
  pub data Data : Type 0 where
    int : ℤ → Data
    atom : List ℕ → Data
    pid : Pid → Data
    tuple : Members → Data
    list : Members → Data
    binary : List ℕ → Data

  -- the members of a tuple or a list, in order
  pub data Members : Type 0 where
    no_members : Members
    member : Data → Members → Members

abbrev mutual
  -- how deep tuples and lists are nested: one more than the deepest member, 1 without members
  pub depth : Data → ℕ
  depth (int n) = 0
  depth (atom text) = 0
  depth (pid p) = 0
  depth (tuple ts) = suc (greatest_depth ts)
  depth (list ts) = suc (greatest_depth ts)
  depth (binary bytes) = 0

  -- the depth of the deepest member
  pub greatest_depth : Members → ℕ
  greatest_depth no_members = 0
  greatest_depth (member t ts) = max (depth t) (greatest_depth ts)
