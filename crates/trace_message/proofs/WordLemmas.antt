-- The texts of words.
use Rattle.std.proofs.Common.{◌≤◌, length, lit≤}
use Rattle.std.specs.Str.{chars}
use Rattle.trace_message.specs.declared.word.Word.{Word}
use Rattle.trace_message.specs.declared.word.Word.TheVariants.{Trace, TraceTs, Call, ReturnFrom, ExceptionFrom, Send, SendToNonExistingProcess, Receive}
use Rattle.trace_message.specs.Words.{text_of}

-- each text fits an atom
pub text_fits : (w : Word) → length (chars (text_of w)) ≤ 255
unfolding chars
text_fits Trace = lit≤ tt
text_fits TraceTs = lit≤ tt
text_fits Call = lit≤ tt
text_fits ReturnFrom = lit≤ tt
text_fits ExceptionFrom = lit≤ tt
text_fits Send = lit≤ tt
text_fits SendToNonExistingProcess = lit≤ tt
text_fits Receive = lit≤ tt
