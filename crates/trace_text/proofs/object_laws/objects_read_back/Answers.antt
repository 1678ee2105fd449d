use Rattle.trace_text.proofs.Printing.{object_read, object_small}
use Rattle.trace_text.proofs.object_laws.objects_read_back.Goals as goal

pub returns-clause-read : goal.returns-clause-read
returns-clause-read c = object_read

pub returns-clause-small : goal.returns-clause-small
returns-clause-small c = object_small
