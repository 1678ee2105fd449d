-- The message of an event: ERTS, erlang:trace/3.
use Rattle.std.specs.Prelude.{List, [], ◌∷◌, ◌++◌, length, Bool, Option, Some, None, if◌then◌else◌}
use Rattle.trace_terms.specs.declared.term.Pid.{Pid}
use Rattle.trace_terms.specs.Data.{Data, int, atom, pid, list}
use Rattle.trace_terms.specs.View.{members_of}
use Rattle.trace_message.specs.declared.event.Flags.{Flags}
use Rattle.trace_message.specs.declared.event.Stamp.{Stamp}
use Rattle.trace_message.specs.Events.{EventData, call, return_from, exception_from, send, send_lost, receive}
use Rattle.trace_message.specs.declared.word.Word.TheVariants as words
use Rattle.trace_message.specs.Words.{text_of}
use Rattle.trace_message.specs.Tuples.{tuple_of, triple_of, number, function_of, reason_of}

-- whether the flags ask for an event
abbrev pub is_asked : Flags → EventData → Bool
is_asked flags (call mod_name fun_name args) = flags.call
is_asked flags (return_from mod_name fun_name arity value) = flags.call
is_asked flags (exception_from mod_name fun_name arity class value) = flags.call
is_asked flags (send msg target) = flags.send
is_asked flags (send_lost msg target) = flags.send
is_asked flags (receive msg) = flags.receive

-- the arguments of a call, or their number
abbrev pub called_with : Flags → List Data → Data
called_with flags args = if flags.arity then number (length args) else list (members_of args)

-- what stands after the pid
abbrev pub row_of : Flags → EventData → List Data
row_of flags (call mod_name fun_name args) = atom (text_of words.Call) ∷ function_of mod_name fun_name (called_with flags args) ∷ []
row_of flags (return_from mod_name fun_name arity value) = atom (text_of words.ReturnFrom) ∷ function_of mod_name fun_name (number arity) ∷ value ∷ []
row_of flags (exception_from mod_name fun_name arity class value) = atom (text_of words.ExceptionFrom) ∷ function_of mod_name fun_name (number arity) ∷ reason_of class value ∷ []
row_of flags (send msg target) = atom (text_of words.Send) ∷ msg ∷ target ∷ []
row_of flags (send_lost msg target) = atom (text_of words.SendToNonExistingProcess) ∷ msg ∷ target ∷ []
row_of flags (receive msg) = atom (text_of words.Receive) ∷ msg ∷ []

-- {Mega,Sec,Micro}
abbrev pub moment_of : Stamp → Data
moment_of stamp = triple_of (number stamp.mega) (number stamp.sec) (number stamp.micro)

-- the time stamp that the flags ask for: {Mega,Sec,Micro}, or else the monotonic time
abbrev pub stamp_of : Flags → Stamp → Option Data
stamp_of flags stamp = if flags.timestamp then Some (moment_of stamp) else if flags.monotonic then Some (int stamp.mono) else None

-- {trace,P,..}, or {trace_ts,P,..,Stamp}
abbrev pub told_with : Option Data → Pid → List Data → Data
told_with None p row = tuple_of (atom (text_of words.Trace) ∷ pid p ∷ row)
told_with (Some stamp) p row = tuple_of (atom (text_of words.TraceTs) ∷ pid p ∷ (row ++ stamp ∷ []))

-- what is told of a row, as the flags ask
abbrev pub told_by : Flags → Pid → Stamp → List Data → Data
told_by flags p stamp row = told_with (stamp_of flags stamp) p row

-- the message of an event, where the flags ask for it
abbrev pub message_of : EventData → Pid → Flags → Stamp → Option Data
message_of event p flags stamp = if is_asked flags event then Some (told_by flags p stamp (row_of flags event)) else None
