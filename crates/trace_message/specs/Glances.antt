-- What of a term tells which message it is, or part of which.
use Rattle.std.specs.Prelude.{List, [], ◌∷◌, Bool, true, false, ◌&&◌, Option, Some, None, if◌then◌else◌}
use Rattle.trace_terms.specs.Data.{Data, int, atom, pid, tuple, list, binary, Members, no_members, member}
use Rattle.trace_message.specs.declared.word.Word.{Word}
use Rattle.trace_message.specs.declared.word.Word.TheVariants as words
use Rattle.trace_message.specs.declared.seen.Seen.{Seen}
use Rattle.trace_message.specs.declared.glance.Shape.{Shape}
use Rattle.trace_message.specs.declared.glance.Shape.TheVariants as shapes
use Rattle.trace_message.specs.declared.glance.Sort.{Sort}
use Rattle.trace_message.specs.declared.glance.Sort.TheVariants as sorts
use Rattle.trace_message.specs.declared.glance.Glance.{Glance}
use Rattle.trace_message.specs.Words.{word_named}
use Rattle.trace_message.specs.Rows.{stamped, kind_by}

-- which sort of term was glanced at
abbrev pub is_atom : Sort → Bool
is_atom (sorts.Atom word) = true
is_atom other = false

abbrev pub is_int : Sort → Bool
is_int sorts.Int = true
is_int other = false

abbrev pub is_pid : Sort → Bool
is_pid sorts.Pid = true
is_pid other = false

-- the word that an atom is
abbrev pub word_of : Sort → Option Word
word_of (sorts.Atom word) = word
word_of other = None

-- ---- tuples, by their members

-- two atoms and this
abbrev pub shape_of_function : Sort → Shape
shape_of_function sorts.Int = shapes.Function
shape_of_function sorts.List = shapes.Call
shape_of_function other = shapes.Other

abbrev pub shape_of_three : Sort → Sort → Sort → Shape
shape_of_three a b c = if is_atom a && is_atom b then shape_of_function c else (if is_int a && (is_int b && is_int c) then shapes.Moment else shapes.Other)

-- this and another term
abbrev pub shape_of_two : Sort → Shape
shape_of_two class = if is_atom class then shapes.Reason else shapes.Other

abbrev pub shape_of : List Glance → Shape
shape_of (a ∷ b ∷ c ∷ []) = shape_of_three a.sort b.sort c.sort
shape_of (a ∷ b ∷ []) = shape_of_two a.sort
shape_of other = shapes.Other

-- {M,F,Args} or {M,F,Arity}
abbrev pub is_called : Sort → Bool
is_called (sorts.Tuple shapes.Call) = true
is_called (sorts.Tuple shapes.Function) = true
is_called other = false

-- {M,F,Arity}
abbrev pub is_function : Sort → Bool
is_function (sorts.Tuple shapes.Function) = true
is_function other = false

-- {Class,Value}
abbrev pub is_reason : Sort → Bool
is_reason (sorts.Tuple shapes.Reason) = true
is_reason other = false

-- {Mega,Sec,Micro}, or an integer
abbrev pub is_stamp : Sort → Bool
is_stamp (sorts.Tuple shapes.Moment) = true
is_stamp sorts.Int = true
is_stamp other = false

-- ---- messages

-- what stands after `call`
abbrev pub is_call : List Glance → Bool
is_call (function ∷ []) = is_called function.sort
is_call other = false

-- what stands after `return_from`
abbrev pub is_return : List Glance → Bool
is_return (function ∷ value ∷ []) = is_function function.sort
is_return other = false

-- what stands after `exception_from`
abbrev pub is_exception : List Glance → Bool
is_exception (function ∷ reason ∷ []) = is_function function.sort && is_reason reason.sort
is_exception other = false

abbrev pub stamps : Glance → Bool
stamps last = is_stamp last.sort

abbrev pub row_kind : List Glance → Option Seen
row_kind [] = None
row_kind (word ∷ row) = kind_by is_call is_return is_exception (word_of word.sort) row

abbrev pub stamped_row_kind : List Glance → Option Seen
stamped_row_kind = stamped stamps row_kind

abbrev pub kind_under : Option Word → List Glance → Option Seen
kind_under (Some words.Trace) row = row_kind row
kind_under (Some words.TraceTs) row = stamped_row_kind row
kind_under other row = None

abbrev pub parts_kind : List Glance → Option Seen
parts_kind (head ∷ process ∷ row) = if is_pid process.sort then kind_under (word_of head.sort) row else None
parts_kind other = None

-- a term that is no tuple
abbrev pub plain : Sort → Glance
plain sort = record { sort = sort; kind = None }

-- a tuple with these members
abbrev pub of_parts : List Glance → Glance
of_parts parts = record { sort = sorts.Tuple (shape_of parts); kind = parts_kind parts }

abbrev mutual
  -- a term
  pub glance : Data → Glance
  glance (int n) = plain sorts.Int
  glance (atom text) = plain (sorts.Atom (word_named text))
  glance (pid p) = plain sorts.Pid
  glance (tuple ts) = of_parts (glances ts)
  glance (list ts) = plain sorts.List
  glance (binary bytes) = plain sorts.Binary

  -- members
  pub glances : Members → List Glance
  glances no_members = []
  glances (member t ts) = glance t ∷ glances ts
