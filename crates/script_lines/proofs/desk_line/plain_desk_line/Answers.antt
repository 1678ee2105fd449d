use Rattle.script_lines.specs.Spellings.{texts}
use Rattle.script_lines.proofs.Others.{not_at_desk}
use Rattle.script_lines.proofs.desk_line.plain_desk_line.Goals as goal

pub returns-in_err-sole_tracee-in-FlushFor : goal.returns-in_err-sole_tracee-in-FlushFor
returns-in_err-sole_tracee-in-FlushFor c = rw (c.from_residual.ensures, c.in-FlushFor.is) (λ x h. c.in_err-sole_tracee-in-FlushFor.ensures h.0 h.1)

pub returns-in_err-sole_tracee-in-Counts : goal.returns-in_err-sole_tracee-in-Counts
returns-in_err-sole_tracee-in-Counts c = rw (c.from_residual-in_err-sole_tracee-in-Counts.ensures, c.in-Counts.is) (λ x h. c.in_err-sole_tracee-in-Counts.ensures h.0 h.1)

pub returns-in-Stamp : goal.returns-in-Stamp
returns-in-Stamp c = rw c.in-Stamp.is c.stamp.ensures

pub returns-in-Mono : goal.returns-in-Mono
returns-in-Mono c = rw c.in-Mono.is c.mono.ensures

pub returns-in-Tracee : goal.returns-in-Tracee
returns-in-Tracee c = rw c.in-Tracee.is c.tracee.ensures

pub returns-in-Hand : goal.returns-in-Hand
returns-in-Hand c = rw c.in-Hand.is c.hand.ensures

pub returns-in_default : goal.returns-in_default
returns-in_default c x h = not_at_desk c.args.keyword (texts c.args.words.now) x c.in_default.not-Stamp c.in_default.not-Mono c.in_default.not-Tracee c.in_default.not-Hand c.in_default.not-FlushFor c.in_default.not-Counts c.requires h
