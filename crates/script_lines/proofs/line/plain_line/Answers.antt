use Rattle.script_lines.proofs.line.plain_line.Goals as goal

pub returns-in_err-sole_within-in-Store : goal.returns-in_err-sole_within-in-Store
returns-in_err-sole_within-in-Store c = rw (c.from_residual.ensures, c.in-Store.is) (λ x h. c.in_err-sole_within-in-Store.ensures h.0 h.1)

pub returns-in_err-sole_number-in-Fuse : goal.returns-in_err-sole_number-in-Fuse
returns-in_err-sole_number-in-Fuse c = rw (c.from_residual-in_err-sole_number-in-Fuse.ensures, c.in-Fuse.is) (λ x h. c.in_err-sole_number-in-Fuse.ensures h.0 h.1)

pub returns-in_err-sole_number-in-FailOnce : goal.returns-in_err-sole_number-in-FailOnce
returns-in_err-sole_number-in-FailOnce c = rw (c.from_residual-in_err-sole_number-in-FailOnce.ensures, c.in-FailOnce.is) (λ x h. c.in_err-sole_number-in-FailOnce.ensures h.0 h.1)

pub returns-in_err-sole_within-in-Lose : goal.returns-in_err-sole_within-in-Lose
returns-in_err-sole_within-in-Lose c = rw (c.from_residual-in_err-sole_within-in-Lose.ensures, c.in-Lose.is) (λ x h. c.in_err-sole_within-in-Lose.ensures h.0 h.1)

pub returns-in_err-sole_number-in-Tick : goal.returns-in_err-sole_number-in-Tick
returns-in_err-sole_number-in-Tick c = rw (c.from_residual-in_err-sole_number-in-Tick.ensures, c.in-Tick.is) (λ x h. c.in_err-sole_number-in-Tick.ensures h.0 h.1)

pub returns-in-Create : goal.returns-in-Create
returns-in-Create c = rw c.in-Create.is c.create.ensures

pub returns-in-Resume : goal.returns-in-Resume
returns-in-Resume c = rw c.in-Resume.is c.resume.ensures

pub returns-in-Crash : goal.returns-in-Crash
returns-in-Crash c = rw c.in-Crash.is c.crash.ensures
