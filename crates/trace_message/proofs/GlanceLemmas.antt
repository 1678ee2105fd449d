-- A glance at a term tells its kind.
use Rattle.std.proofs.Common.{◌≡◌, Bool, true, false, ◌&&◌, ◌||◌, cond, List, [], ◌∷◌, Option, None, Some, refl, ap, ◌∙◌, sym}
use Rattle.trace_terms.specs.Data.{Data, int, atom, pid, tuple, list, binary, Members, no_members, member}
use Rattle.trace_message.specs.declared.word.Word.{Word}
use Rattle.trace_message.specs.declared.word.Word.TheVariants as words
use Rattle.trace_message.specs.declared.seen.Seen.{Seen}
use Rattle.trace_message.specs.declared.seen.Seen.TheVariants as kinds
use Rattle.trace_message.specs.declared.glance.Shape.{Shape}
use Rattle.trace_message.specs.declared.glance.Shape.TheVariants.{Reason, Moment, Other}
use Rattle.trace_message.specs.declared.glance.Sort.{Sort}
use Rattle.trace_message.specs.declared.glance.Sort.TheVariants.{Tuple}
use Rattle.trace_message.specs.Words.{word_named}
use Rattle.trace_message.specs.Shapes as shapes
use Rattle.trace_message.specs.Shapes.{list_of}
use Rattle.trace_message.specs.Rows.{is_one, is_two, front_of, ends_with, only_if, kind_by}
use Rattle.trace_message.specs.Glances as glanced
use Rattle.trace_message.specs.Glances.{glance, glances, is_atom, is_int, is_pid, is_called, is_function, is_reason, is_stamp, shape_of, shape_of_function}

-- ---- one term

abbrev sort : Data → Sort
sort t = (glance t).sort

atom_same : (t : Data) → is_atom (sort t) ≡ shapes.is_atom t
atom_same (atom text) = refl
atom_same t = refl

int_same : (t : Data) → is_int (sort t) ≡ shapes.is_int t
int_same (int n) = refl
int_same t = refl

-- what two atoms and a term are
called_last : (t : Data) → is_called (Tuple (shape_of_function (sort t))) ≡ (shapes.is_list t || shapes.is_int t)
called_last (int n) = refl
called_last t = refl

function_last : (t : Data) → is_function (Tuple (shape_of_function (sort t))) ≡ shapes.is_int t
function_last (int n) = refl
function_last t = refl

reason_last : (t : Data) → is_reason (Tuple (shape_of_function (sort t))) ≡ false
reason_last (int n) = refl
reason_last t = refl

stamp_last : (t : Data) → is_stamp (Tuple (shape_of_function (sort t))) ≡ false
stamp_last (int n) = refl
stamp_last t = refl

-- ---- tuples

-- by whether the first two are atoms, what the last makes of them, and whether all are integers
of_three : (test : Sort → Bool) (p q m : Bool) (s : Shape) → test (Tuple Moment) ≡ false → test (Tuple Other) ≡ false → test (Tuple (cond (p && q) s (cond m Moment Other))) ≡ (p && (q && test (Tuple s)))
of_three test true true m s x y = refl
of_three test true false true s x y = x
of_three test true false false s x y = y
of_three test false q true s x y = x
of_three test false q false s x y = y

of_two : (test : Sort → Bool) (p : Bool) → test (Tuple Reason) ≡ false → test (Tuple Other) ≡ false → test (Tuple (cond p Reason Other)) ≡ false
of_two test true x y = x
of_two test false x y = y

reason_two : (p : Bool) → is_reason (Tuple (cond p Reason Other)) ≡ p
reason_two true = refl
reason_two false = refl

and_false : (b : Bool) → (b && false) ≡ false
and_false true = refl
and_false false = refl

stamp_if : (m : Bool) → is_stamp (Tuple (cond m Moment Other)) ≡ m
stamp_if true = refl
stamp_if false = refl

stamp_atom : (q : Bool) (s : Shape) → is_stamp (Tuple s) ≡ false → is_stamp (Tuple (cond q s Other)) ≡ false
stamp_atom true s e = e
stamp_atom false s e = refl

module _ (a b c : Data) where
  abbrev ints : Bool
  ints = is_int (sort a) && (is_int (sort b) && is_int (sort c))

  abbrev three : (Sort → Bool) → Bool
  three test = test (Tuple (cond (is_atom (sort a) && is_atom (sort b)) (shape_of_function (sort c)) (cond ints Moment Other)))

  called_three : three is_called ≡ (shapes.is_atom a && (shapes.is_atom b && (shapes.is_list c || shapes.is_int c)))
  called_three = of_three is_called (is_atom (sort a)) (is_atom (sort b)) ints (shape_of_function (sort c)) refl refl ∙ rw (atom_same a, atom_same b, called_last c) refl

  function_three : three is_function ≡ (shapes.is_atom a && (shapes.is_atom b && shapes.is_int c))
  function_three = of_three is_function (is_atom (sort a)) (is_atom (sort b)) ints (shape_of_function (sort c)) refl refl ∙ rw (atom_same a, atom_same b, function_last c) refl

  reason_three : three is_reason ≡ false
  reason_three =
      of_three is_reason (is_atom (sort a)) (is_atom (sort b)) ints (shape_of_function (sort c)) refl refl ∙ ap (λ (x : Bool). is_atom (sort a) && (is_atom (sort b) && x)) (reason_last c)
      ∙ ap (λ (x : Bool). is_atom (sort a) && x) (and_false (is_atom (sort b))) ∙ and_false (is_atom (sort a))

called_same : (ts : Members) → is_called (Tuple (shape_of (glances ts))) ≡ shapes.is_called (list_of ts)
called_same (member a (member b no_members)) = of_two is_called (is_atom (sort a)) refl refl
called_same (member a (member b (member c no_members))) = called_three a b c
called_same ts = refl

function_same : (ts : Members) → is_function (Tuple (shape_of (glances ts))) ≡ shapes.is_function (list_of ts)
function_same (member a (member b no_members)) = of_two is_function (is_atom (sort a)) refl refl
function_same (member a (member b (member c no_members))) = function_three a b c
function_same ts = refl

reason_same : (ts : Members) → is_reason (Tuple (shape_of (glances ts))) ≡ shapes.is_reason (list_of ts)
reason_same (member a (member b no_members)) = reason_two (is_atom (sort a)) ∙ atom_same a
reason_same (member a (member b (member c no_members))) = reason_three a b c
reason_same ts = refl

moment_three : (a b c : Data) → three a b c is_stamp ≡ (shapes.is_int a && (shapes.is_int b && shapes.is_int c))
moment_three (int n) b c = stamp_if (is_int (sort b) && is_int (sort c)) ∙ rw (int_same b, int_same c) refl
moment_three (atom text) b c = stamp_atom (is_atom (sort b)) (shape_of_function (sort c)) (stamp_last c)
moment_three a b c = refl

moment_same : (ts : Members) → is_stamp (Tuple (shape_of (glances ts))) ≡ shapes.are_integers (list_of ts)
moment_same (member a (member b no_members)) = of_two is_stamp (is_atom (sort a)) refl refl
moment_same (member a (member b (member c no_members))) = moment_three a b c
moment_same ts = refl

-- ---- rows

call_same : (row : Members) → glanced.is_call (glances row) ≡ shapes.is_call (list_of row)
call_same (member (tuple ts) no_members) = called_same ts
call_same (member (tuple ts) (member u row)) = refl
call_same (member t no_members) = refl
call_same (member t (member u row)) = refl
call_same no_members = refl

return_same : (row : Members) → glanced.is_return (glances row) ≡ shapes.is_return (list_of row)
return_same (member (tuple ts) (member u no_members)) = function_same ts
return_same (member (tuple ts) (member u (member v row))) = refl
return_same (member (tuple ts) no_members) = refl
return_same (member t (member u no_members)) = refl
return_same (member t (member u (member v row))) = refl
return_same (member t no_members) = refl
return_same no_members = refl

exception_same : (row : Members) → glanced.is_exception (glances row) ≡ shapes.is_exception (list_of row)
exception_same (member (tuple ts) (member (tuple us) no_members)) = rw (function_same ts, reason_same us) refl
exception_same (member (tuple ts) (member u no_members)) = and_false (is_function (sort (tuple ts)))
exception_same (member (tuple ts) (member (tuple us) (member v row))) = refl
exception_same (member (tuple ts) (member u (member v row))) = refl
exception_same (member (tuple ts) no_members) = refl
exception_same (member t (member u no_members)) = refl
exception_same (member t (member u (member v row))) = refl
exception_same (member t no_members) = refl
exception_same no_members = refl

one_same : (row : Members) → is_one (glances row) ≡ is_one (list_of row)
one_same (member a no_members) = refl
one_same row = refl

two_same : (row : Members) → is_two (glances row) ≡ is_two (list_of row)
two_same (member a (member b no_members)) = refl
two_same row = refl

behind_same : (word : Option Word) (row : Members) → kind_by glanced.is_call glanced.is_return glanced.is_exception word (glances row) ≡ shapes.kind_behind word (list_of row)
behind_same (Some words.Call) row = ap (λ b. only_if b kinds.Call) (call_same row)
behind_same (Some words.ReturnFrom) row = ap (λ b. only_if b kinds.Return) (return_same row)
behind_same (Some words.ExceptionFrom) row = ap (λ b. only_if b kinds.Exception) (exception_same row)
behind_same (Some words.Send) row = ap (λ b. only_if b kinds.Send) (two_same row)
behind_same (Some words.SendToNonExistingProcess) row = ap (λ b. only_if b kinds.SendLost) (two_same row)
behind_same (Some words.Receive) row = ap (λ b. only_if b kinds.Receive) (one_same row)
behind_same word row = refl

row_same : (row : Members) → glanced.row_kind (glances row) ≡ shapes.row_kind (list_of row)
row_same (member (atom text) row) = behind_same (word_named text) row
row_same row = refl

-- ---- rows with a time stamp

stamp_same : (t : Data) → glanced.stamps (glance t) ≡ shapes.is_stamp t
stamp_same (tuple ts) = moment_same ts
stamp_same t = refl

ends_same : (row : Members) → ends_with glanced.stamps (glances row) ≡ ends_with shapes.is_stamp (list_of row)
ends_same no_members = refl
ends_same (member t no_members) = stamp_same t
ends_same (member t (member u row)) = ends_same (member u row)

abbrev front : Members → Members
front (member t (member u row)) = member t (front (member u row))
front row = no_members

front_list : (row : Members) → list_of (front row) ≡ front_of (list_of row)
front_list (member t (member u row)) = ap (λ l. t ∷ l) (front_list (member u row))
front_list row = refl

front_glances : (row : Members) → glances (front row) ≡ front_of (glances row)
front_glances (member t (member u row)) = ap (λ l. glance t ∷ l) (front_glances (member u row))
front_glances row = refl

front_row_same : (row : Members) → glanced.row_kind (front_of (glances row)) ≡ shapes.row_kind (front_of (list_of row))
front_row_same row = ap glanced.row_kind (sym (front_glances row)) ∙ row_same (front row) ∙ ap shapes.row_kind (front_list row)

stamped_same : (row : Members) → glanced.stamped_row_kind (glances row) ≡ shapes.stamped_row_kind (list_of row)
stamped_same row = rw (ends_same row, front_row_same row) refl

-- ---- whole messages

under_same : (word : Option Word) (row : Members) → glanced.kind_under word (glances row) ≡ shapes.kind_under word (list_of row)
under_same (Some words.Trace) row = row_same row
under_same (Some words.TraceTs) row = stamped_same row
under_same word row = refl

abbrev no_kind : Option Seen
no_kind = None

same : (b : Bool) → cond b no_kind no_kind ≡ no_kind
same true = refl
same false = refl

parts_same : (ts : Members) → glanced.parts_kind (glances ts) ≡ shapes.parts_kind (list_of ts)
parts_same (member (atom text) (member (pid p) row)) = under_same (word_named text) row
parts_same (member (atom text) (member u row)) = refl
parts_same (member t (member u row)) = same (is_pid (sort u))
parts_same ts = refl

pub kind_same : (t : Data) → (glance t).kind ≡ shapes.kind_of t
kind_same (tuple ts) = parts_same ts
kind_same t = refl
