-- The kind of a term's message, found part by part. Kinds has the table itself; the lemma `kind_is` joins the two.
use Rattle.std.specs.Prelude.{List, [], ◌∷◌, Bool, true, false, ◌&&◌, ◌||◌, Option, Some, None, if◌then◌else◌}
use Rattle.trace_terms.specs.Data.{Data, int, atom, pid, tuple, list, Members, no_members, member}
use Rattle.trace_message.specs.declared.word.Word.{Word}
use Rattle.trace_message.specs.declared.word.Word.TheVariants as words
use Rattle.trace_message.specs.declared.seen.Seen.{Seen}
use Rattle.trace_message.specs.Rows.{stamped, kind_by}
use Rattle.trace_message.specs.Words.{word_named}

-- members as a list
abbrev pub list_of : Members → List Data
list_of no_members = []
list_of (member t ts) = t ∷ list_of ts

-- which sort of term it is
abbrev pub is_atom : Data → Bool
is_atom (atom text) = true
is_atom other = false

abbrev pub is_int : Data → Bool
is_int (int n) = true
is_int other = false

abbrev pub is_list : Data → Bool
is_list (list ts) = true
is_list other = false

-- {M,F,Arity}
abbrev pub is_function : List Data → Bool
is_function (a ∷ b ∷ c ∷ []) = is_atom a && (is_atom b && is_int c)
is_function other = false

-- {M,F,Args} or {M,F,Arity}
abbrev pub is_called : List Data → Bool
is_called (a ∷ b ∷ c ∷ []) = is_atom a && (is_atom b && (is_list c || is_int c))
is_called other = false

-- {Class,Value}
abbrev pub is_reason : List Data → Bool
is_reason (a ∷ b ∷ []) = is_atom a
is_reason other = false

-- three integers
abbrev pub are_integers : List Data → Bool
are_integers (a ∷ b ∷ c ∷ []) = is_int a && (is_int b && is_int c)
are_integers other = false

-- what stands after `call`
abbrev pub is_call : List Data → Bool
is_call (tuple function ∷ []) = is_called (list_of function)
is_call other = false

-- what stands after `return_from`
abbrev pub is_return : List Data → Bool
is_return (tuple function ∷ value ∷ []) = is_function (list_of function)
is_return other = false

-- what stands after `exception_from`
abbrev pub is_exception : List Data → Bool
is_exception (tuple function ∷ tuple reason ∷ []) = is_function (list_of function) && is_reason (list_of reason)
is_exception other = false

-- the kind of what stands after a word
abbrev pub kind_behind : Option Word → List Data → Option Seen
kind_behind = kind_by is_call is_return is_exception

-- the kind of what stands after the pid
abbrev pub row_kind : List Data → Option Seen
row_kind (atom text ∷ row) = kind_behind (word_named text) row
row_kind other = None

-- {Mega,Sec,Micro}, or an integer
abbrev pub is_stamp : Data → Bool
is_stamp (tuple parts) = are_integers (list_of parts)
is_stamp (int n) = true
is_stamp other = false

-- the kind of a row after which a time stamp stands
abbrev pub stamped_row_kind : List Data → Option Seen
stamped_row_kind = stamped is_stamp row_kind

-- the kind of what stands after the head and the pid
abbrev pub kind_under : Option Word → List Data → Option Seen
kind_under (Some words.Trace) row = row_kind row
kind_under (Some words.TraceTs) row = stamped_row_kind row
kind_under other row = None

-- the kind of a tuple with these members
abbrev pub parts_kind : List Data → Option Seen
parts_kind (atom head ∷ pid p ∷ row) = kind_under (word_named head) row
parts_kind other = None

-- the kind of a term
abbrev pub kind_of : Data → Option Seen
kind_of (tuple ts) = parts_kind (list_of ts)
kind_of other = None
