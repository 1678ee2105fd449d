-- The words that trace messages are told with (ERTS, erlang:trace/3).
use Rattle.std.specs.Prelude.{ℕ, List, Option, Some, None, codes, if◌then◌else◌}
use Rattle.std.specs.Str.{bytes_eq}
use Rattle.trace_message.specs.declared.word.Word.{Word}
use Rattle.trace_message.specs.declared.word.Word.TheVariants.{Trace, TraceTs, Call, ReturnFrom, ExceptionFrom, Send, SendToNonExistingProcess, Receive}

-- the text of each word
abbrev pub text_of : Word → List ℕ
text_of Trace = codes "trace"
text_of TraceTs = codes "trace_ts"
text_of Call = codes "call"
text_of ReturnFrom = codes "return_from"
text_of ExceptionFrom = codes "exception_from"
text_of Send = codes "send"
text_of SendToNonExistingProcess = codes "send_to_non_existing_process"
text_of Receive = codes "receive"

-- the word, if the text is the word's, or else another
abbrev pub or_else : List ℕ → Word → Option Word → Option Word
or_else text word other = if bytes_eq text (text_of word) then Some word else other

-- the word of a text
unfoldable pub word_named : List ℕ → Option Word
word_named text =
    or_else text Trace (or_else text TraceTs (or_else text Call (or_else text ReturnFrom
    (or_else text ExceptionFrom (or_else text Send (or_else text SendToNonExistingProcess (or_else text Receive None)))))))
