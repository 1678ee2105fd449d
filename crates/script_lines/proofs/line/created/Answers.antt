use Rattle.script_lines.proofs.line.created.Goals as goal

pub returns-in_err-sole_number-in-File : goal.returns-in_err-sole_number-in-File
returns-in_err-sole_number-in-File c = rw (c.from_residual.ensures, c.in-File.is) (λ x h. c.in_err-sole_number-in-File.ensures h.0 h.1)

pub returns-in_err-size-in-Wrap : goal.returns-in_err-size-in-Wrap
returns-in_err-size-in-Wrap c = rw (c.from_residual-in_err-size-in-Wrap.ensures, c.in-Wrap.is) (λ x h. c.in_err-size-in-Wrap.ensures (h.0, h.1) h.2)

pub returns-in_err-millis-in-Time : goal.returns-in_err-millis-in-Time
returns-in_err-millis-in-Time c = rw (c.from_residual-in_err-millis-in-Time.ensures, c.in-Time.is) (λ x h. c.in_err-millis-in-Time.ensures (h.0, h.1) h.2)
