use Rattle.trace_terms.proofs.Same.{bytes_tell, pids_tell, same_terms}
use Rattle.trace_terms.proofs.laws.equal_terms.Goals as goal

pub returns-clause-terms : goal.returns-clause-terms
returns-clause-terms c = same_terms

pub returns-clause-pids : goal.returns-clause-pids
returns-clause-pids c = pids_tell

pub returns-clause-atoms : goal.returns-clause-atoms
returns-clause-atoms c = bytes_tell
