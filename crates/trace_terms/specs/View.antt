-- The data that a `Term` stands for.
use Rattle.std.specs.Prelude.{List, [], ◌∷◌, map}
use Rattle.trace_terms.specs.Data.{Data, int, atom, pid, tuple, list, binary, Members, no_members, member}
use Rattle.trace_terms.specs.declared.term.Term.{Term, fold-Term}
use Rattle.trace_terms.specs.declared.term.Term.TheOpen.{Term-F}

-- a list of data as members
abbrev pub members_of : List Data → Members
members_of [] = no_members
members_of (t ∷ ts) = member t (members_of ts)

-- one level, with each term inside already seen as its data
abbrev pub view_step : Term-F Data → Data
view_step (Term-F.Int n) = int n
view_step (Term-F.Atom text) = atom text
view_step (Term-F.Pid p) = pid p
view_step (Term-F.Tuple v) = tuple (members_of v.items)
view_step (Term-F.List v) = list (members_of v.items)
view_step (Term-F.Binary v) = binary v.items

-- the data of a term
abbrev pub view : Term → Data
view = fold-Term Data view_step

-- the data of the terms of a vector
abbrev pub members_view : List Term → Members
members_view ts = members_of (map view ts)
