-- Words on the members of tuples and lists.
use Rattle.std.specs.Prelude.{ℕ, suc, pos, List, [], ◌∷◌}
use Rattle.trace_terms.specs.Data.{int, Members, no_members, member}

-- each byte as an integer
abbrev pub integers : List ℕ → Members
integers [] = no_members
integers (b ∷ bs) = member (int (pos b)) (integers bs)

-- how many members there are
abbrev pub member_count : Members → ℕ
member_count no_members = 0
member_count (member t ts) = suc (member_count ts)
