use Rattle.trace_text.proofs.Named.{process_names}
use Rattle.trace_text.proofs.choice_laws.processes_have_names.Goals as goal

pub returns : goal.returns
returns c = process_names
