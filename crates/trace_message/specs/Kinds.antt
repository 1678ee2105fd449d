-- Which event a term tells of, by its shape alone.
use Rattle.std.specs.Prelude.{ℕ, ℤ, List, [], ◌∷◌, ◌++◌}
use Rattle.trace_terms.specs.declared.term.Pid.{Pid}
use Rattle.trace_terms.specs.Data.{Data, int, atom, pid, list, Members}
use Rattle.trace_message.specs.declared.seen.Seen.{Seen}
use Rattle.trace_message.specs.declared.seen.Seen.TheVariants.{Call, Return, Exception, Send, SendLost, Receive}
use Rattle.trace_message.specs.Events as events
use Rattle.trace_message.specs.Events.{EventData}
use Rattle.trace_message.specs.declared.word.Word.TheVariants as words
use Rattle.trace_message.specs.Words.{text_of}
use Rattle.trace_message.specs.Tuples.{tuple_of, triple_of, function_of, reason_of}

-- What stands after the pid, without a time stamp: a row of the table each.
pub data IsRow : Seen → List Data → Type 0 where
  calls : (mod_name fun_name : List ℕ) (args : Members) → IsRow Call (atom (text_of words.Call) ∷ function_of mod_name fun_name (list args) ∷ [])
  calls_with_arity : (mod_name fun_name : List ℕ) (arity : ℤ) → IsRow Call (atom (text_of words.Call) ∷ function_of mod_name fun_name (int arity) ∷ [])
  returns : (mod_name fun_name : List ℕ) (arity : ℤ) (value : Data) → IsRow Return (atom (text_of words.ReturnFrom) ∷ function_of mod_name fun_name (int arity) ∷ value ∷ [])
  raises : (mod_name fun_name : List ℕ) (arity : ℤ) (class : List ℕ) (value : Data) → IsRow Exception (atom (text_of words.ExceptionFrom) ∷ function_of mod_name fun_name (int arity) ∷ reason_of class value ∷ [])
  sends : (message target : Data) → IsRow Send (atom (text_of words.Send) ∷ message ∷ target ∷ [])
  sends_lost : (message target : Data) → IsRow SendLost (atom (text_of words.SendToNonExistingProcess) ∷ message ∷ target ∷ [])
  receives : (message : Data) → IsRow Receive (atom (text_of words.Receive) ∷ message ∷ [])

-- A time stamp: {Mega,Sec,Micro}, or the monotonic time in nanoseconds.
pub data IsStamp : Data → Type 0 where
  moment : (mega sec micro : ℤ) → IsStamp (triple_of (int mega) (int sec) (int micro))
  monotonic : (nanoseconds : ℤ) → IsStamp (int nanoseconds)

-- The term is {trace,P,..}, or {trace_ts,P,..,Stamp}, with a row of the kind.
pub data IsMessage : Seen → Data → Type 0 where
  plain : (seen : Seen) (p : Pid) (row : List Data) → IsRow seen row → IsMessage seen (tuple_of (atom (text_of words.Trace) ∷ pid p ∷ row))
  stamped : (seen : Seen) (p : Pid) (row : List Data) (stamp : Data) → IsRow seen row → IsStamp stamp → IsMessage seen (tuple_of (atom (text_of words.TraceTs) ∷ pid p ∷ (row ++ stamp ∷ [])))

-- the kind of an event
abbrev pub seen_of : EventData → Seen
seen_of (events.call mod_name fun_name args) = Call
seen_of (events.return_from mod_name fun_name arity value) = Return
seen_of (events.exception_from mod_name fun_name arity class value) = Exception
seen_of (events.send message target) = Send
seen_of (events.send_lost message target) = SendLost
seen_of (events.receive message) = Receive
