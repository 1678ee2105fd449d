-- What an event says, as data.
use Rattle.std.specs.Prelude.{ℕ, List, map}
use Rattle.trace_terms.specs.Data.{Data}
use Rattle.trace_terms.specs.View.{view}
use Rattle.trace_message.specs.declared.event.Event.{Event}

-- an event, with its terms as data
pub data EventData : Type 0 where
  call : (mod_name fun_name : List ℕ) (args : List Data) → EventData
  return_from : (mod_name fun_name : List ℕ) (arity : ℕ) (value : Data) → EventData
  exception_from : (mod_name fun_name : List ℕ) (arity : ℕ) (class : List ℕ) (value : Data) → EventData
  send : (message target : Data) → EventData
  send_lost : (message target : Data) → EventData
  receive : (message : Data) → EventData

-- the data that an `Event` stands for
abbrev pub event_view : Event → EventData
event_view (Event.Call mod_name fun_name args) = call mod_name fun_name (map view args.items)
event_view (Event.Return mod_name fun_name arity value) = return_from mod_name fun_name arity (view value)
event_view (Event.Exception mod_name fun_name arity class value) = exception_from mod_name fun_name arity class (view value)
event_view (Event.Send message target) = send (view message) (view target)
event_view (Event.SendLost message target) = send_lost (view message) (view target)
event_view (Event.Receive message) = receive (view message)
