-- What the term of a trace message tells of the process that is traced, and of the function that is called or returned from.
use Rattle.std.specs.Prelude.{ℕ, pos, Bool, true, false, ◌||◌, Option, Some, None, List, if◌then◌else◌}
use Rattle.std.specs.Fmt.{decimal}
use Rattle.std.specs.Option.{option_map, option_and_then}
use Rattle.trace_message.specs.declared.word.Word.TheVariants as words
use Rattle.trace_message.specs.declared.seen.Seen.TheVariants as events
use Rattle.trace_text.specs.declared.other_word.OtherWord.TheVariants as others
use Rattle.trace_text.specs.declared.sight.Heading.TheVariants as headings
use Rattle.trace_text.specs.declared.sight.Kind.{Kind}
use Rattle.trace_text.specs.declared.sight.Kind.TheVariants as kinds
use Rattle.trace_text.specs.declared.sight.Sort.{Sort}
use Rattle.trace_text.specs.declared.sight.Sort.TheVariants as sorts
use Rattle.trace_text.specs.AnyTerm.{Leaf, int, AnyTerm, leaf, tuple, AnyMembers, no_members, member}
use Rattle.trace_text.specs.BigText.{whole_decimal}
use Rattle.trace_text.specs.Sights.{is_atom, is_pid, is_port, sort_of, sight, arity_in}

-- the atoms `trace` and `trace_ts`
abbrev pub is_tag : Sort → Bool
is_tag (sorts.Atom (Some (headings.Known words.Trace))) = true
is_tag (sorts.Atom (Some (headings.Known words.TraceTs))) = true
is_tag _ = false

-- how many members a list has, where that is told
abbrev pub count_of : Sort → Option ℕ
count_of (sorts.List count) = count
count_of _ = None

-- who is traced: a process or a port
abbrev pub is_tracee : Sort → Bool
is_tracee sort = is_pid sort || is_port sort

-- a term that has no terms in it and is of such a sort
abbrev pub leaf_if : (Sort → Bool) → AnyTerm → Option Leaf
leaf_if test (leaf l) = if test (sort_of l) then Some l else None
leaf_if test t = None

-- what stands after the tag of a trace message
abbrev pub behind_tag : AnyTerm → AnyMembers
behind_tag (tuple (member (leaf l) ts)) = if is_tag (sort_of l) then ts else no_members
behind_tag t = no_members

-- who is traced, where more is told
abbrev pub tracee_of : AnyMembers → Option Leaf
tracee_of (member who (member word ts)) = leaf_if is_tracee who
tracee_of ts = None

-- the process or the port that a message tells of
abbrev pub traced : AnyTerm → Option Leaf
traced t = tracee_of (behind_tag t)

-- how many arguments are told, in decimal: as many as the members of a list of them, or a number that isn't negative
abbrev pub arity_told : AnyTerm → Option (List ℕ)
arity_told (leaf (int (pos n))) = Some (whole_decimal n)
arity_told t = option_map decimal (arity_in t)

-- a function by the atoms of its module and its name, and what tells how many arguments it has
pub record Function : Type 0 where
  pub of_module : Leaf
  pub of_name : Leaf
  pub arguments : AnyTerm

abbrev pub with_names : AnyTerm → Option Leaf → Option Leaf → Option Function
with_names arguments (Some m) (Some f) = Some (record { of_module = m; of_name = f; arguments = arguments })
with_names arguments m f = None

-- {M,F,X}
abbrev pub function_in : AnyTerm → Option Function
function_in (tuple (member m (member f (member arguments no_members)))) = with_names arguments (leaf_if is_atom m) (leaf_if is_atom f)
function_in t = None

-- it stands after the process and an atom
abbrev pub function_behind : AnyMembers → Option Function
function_behind (member who (member word (member t ts))) = option_and_then (λ _. function_in t) (leaf_if is_atom word)
function_behind ts = None

-- the kinds that tell of a function
abbrev pub tells_function : Option Kind → Bool
tells_function (Some (kinds.Seen events.Call)) = true
tells_function (Some (kinds.Seen events.Return)) = true
tells_function (Some (kinds.Seen events.Exception)) = true
tells_function kind = false

-- these kinds, and the one that tells to which function a process is back
abbrev pub names_function : Option Kind → Bool
names_function (Some (kinds.Other others.ReturnTo)) = true
names_function kind = tells_function kind

-- the kind that tells to whom a message is sent
abbrev pub tells_receiver : Option Kind → Bool
tells_receiver (Some (kinds.Seen events.Send)) = true
tells_receiver kind = false

-- {trace,Who,send,Message,To,..}, where To is of such a sort
abbrev pub receiver_if : (Sort → Bool) → AnyTerm → Option Leaf
receiver_if test (tuple (member tag (member who (member word (member message (member to ts)))))) = leaf_if test to
receiver_if test t = None

-- the process that a message tells another to be sent to
abbrev pub sent_to : AnyTerm → Option Leaf
sent_to t = if tells_receiver (sight t).kind then receiver_if is_pid t else None

-- the function that stands behind who is traced
abbrev pub function_of : AnyTerm → Option Function
function_of t = option_and_then (λ _. function_behind (behind_tag t)) (traced t)

-- the function that a message tells to be called or returned from
abbrev pub called : AnyTerm → Option Function
called t = if tells_function (sight t).kind then function_of t else None

-- the function that it tells to be called, returned from or returned to
abbrev pub told_function : AnyTerm → Option Function
told_function t = if names_function (sight t).kind then function_of t else None

-- ---- registered names

-- the kinds that tell of a name that a process gets or loses
abbrev pub tells_registered : Option Kind → Bool
tells_registered (Some (kinds.Other others.Register)) = true
tells_registered (Some (kinds.Other others.Unregister)) = true
tells_registered kind = false

-- the kinds that tell of a message that is sent, to whomever
abbrev pub tells_target : Option Kind → Bool
tells_target (Some (kinds.Seen events.Send)) = true
tells_target (Some (kinds.Seen events.SendLost)) = true
tells_target kind = false

-- the atom that stands after the process and an atom
abbrev pub atom_behind : AnyMembers → Option Leaf
atom_behind (member who (member word (member t ts))) = option_and_then (λ _. leaf_if is_atom t) (leaf_if is_atom word)
atom_behind ts = None

-- the atom that stands there behind who is traced
abbrev pub registered : AnyTerm → Option Leaf
registered t = option_and_then (λ _. atom_behind (behind_tag t)) (traced t)

-- the name that a process gets or loses, or the one by which a message is sent
abbrev pub told_name : AnyTerm → Option Leaf
told_name t = if tells_registered (sight t).kind then registered t else (if tells_target (sight t).kind then receiver_if is_atom t else None)
