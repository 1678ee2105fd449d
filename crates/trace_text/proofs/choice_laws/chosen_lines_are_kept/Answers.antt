use Rattle.trace_text.proofs.ChosenLines.{each_line, are_kept, kept_last, some_kept, none_behind}
use Rattle.trace_text.proofs.choice_laws.chosen_lines_are_kept.Goals as goal

pub returns-clause-each : goal.returns-clause-each
returns-clause-each c = each_line

pub returns-clause-kept : goal.returns-clause-kept
returns-clause-kept c = are_kept

pub returns-clause-last : goal.returns-clause-last
returns-clause-last c = kept_last

pub returns-clause-some : goal.returns-clause-some
returns-clause-some c = some_kept

pub returns-clause-over : goal.returns-clause-over
returns-clause-over c = none_behind
