use Rattle.trace_message.specs.declared.word.Word.TheVariants.{Trace, TraceTs, Call, ReturnFrom, ExceptionFrom, Send, SendToNonExistingProcess, Receive}
use Rattle.trace_message.proofs.WordLemmas.{text_fits}
use Rattle.trace_message.proofs.word.Word.text.Goals as goal

pub returns-in-Trace-clause-short : goal.returns-in-Trace-clause-short
returns-in-Trace-clause-short c = text_fits Trace

pub returns-in-TraceTs-clause-short : goal.returns-in-TraceTs-clause-short
returns-in-TraceTs-clause-short c = text_fits TraceTs

pub returns-in-Call-clause-short : goal.returns-in-Call-clause-short
returns-in-Call-clause-short c = text_fits Call

pub returns-in-ReturnFrom-clause-short : goal.returns-in-ReturnFrom-clause-short
returns-in-ReturnFrom-clause-short c = text_fits ReturnFrom

pub returns-in-ExceptionFrom-clause-short : goal.returns-in-ExceptionFrom-clause-short
returns-in-ExceptionFrom-clause-short c = text_fits ExceptionFrom

pub returns-in-Send-clause-short : goal.returns-in-Send-clause-short
returns-in-Send-clause-short c = text_fits Send

pub returns-in-SendToNonExistingProcess-clause-short : goal.returns-in-SendToNonExistingProcess-clause-short
returns-in-SendToNonExistingProcess-clause-short c = text_fits SendToNonExistingProcess

pub returns-in-Receive-clause-short : goal.returns-in-Receive-clause-short
returns-in-Receive-clause-short c = text_fits Receive
