-- What stands after the head and the pid of a trace message, whatever its parts are seen as.
use Rattle.std.specs.Prelude.{List, [], ◌∷◌, Bool, true, false, Option, Some, None, if◌then◌else◌}
use Rattle.trace_message.specs.declared.word.Word.{Word}
use Rattle.trace_message.specs.declared.word.Word.TheVariants as words
use Rattle.trace_message.specs.declared.seen.Seen.{Seen}
use Rattle.trace_message.specs.declared.seen.Seen.TheVariants as kinds

-- what stands after `receive`
abbrev pub is_one : {T : Type 0} → List T → Bool
is_one (a ∷ []) = true
is_one other = false

-- what stands after `send` or `send_to_non_existing_process`
abbrev pub is_two : {T : Type 0} → List T → Bool
is_two (a ∷ b ∷ []) = true
is_two other = false

-- all but the last
abbrev pub front_of : {T : Type 0} → List T → List T
front_of [] = []
front_of (t ∷ []) = []
front_of (t ∷ u ∷ ts) = t ∷ front_of (u ∷ ts)

-- whether the last is so
abbrev pub ends_with : {T : Type 0} → (T → Bool) → List T → Bool
ends_with is [] = false
ends_with is (t ∷ []) = is t
ends_with is (t ∷ u ∷ ts) = ends_with is (u ∷ ts)

-- the kind of a row after which a time stamp stands
abbrev pub stamped : {T K : Type 0} → (T → Bool) → (List T → Option K) → List T → Option K
stamped is_stamp kind_of row = if ends_with is_stamp row then kind_of (front_of row) else None

-- the kind, if the test is passed
abbrev pub only_if : Bool → Seen → Option Seen
only_if test seen = if test then Some seen else None

-- the kind of what stands after a word, by the tests of what stands after `call`, `return_from` and `exception_from`
abbrev pub kind_by : {T : Type 0} → (List T → Bool) → (List T → Bool) → (List T → Bool) → Option Word → List T → Option Seen
kind_by is_call is_return is_exception None row = None
kind_by is_call is_return is_exception (Some words.Trace) row = None
kind_by is_call is_return is_exception (Some words.TraceTs) row = None
kind_by is_call is_return is_exception (Some words.Call) row = only_if (is_call row) kinds.Call
kind_by is_call is_return is_exception (Some words.ReturnFrom) row = only_if (is_return row) kinds.Return
kind_by is_call is_return is_exception (Some words.ExceptionFrom) row = only_if (is_exception row) kinds.Exception
kind_by is_call is_return is_exception (Some words.Send) row = only_if (is_two row) kinds.Send
kind_by is_call is_return is_exception (Some words.SendToNonExistingProcess) row = only_if (is_two row) kinds.SendLost
kind_by is_call is_return is_exception (Some words.Receive) row = only_if (is_one row) kinds.Receive
