use Rattle.script_lines.proofs.line.resumed.Goals as goal

pub returns-in_err-sole_number-in-File : goal.returns-in_err-sole_number-in-File
returns-in_err-sole_number-in-File c = rw (c.from_residual.ensures, c.in-File.is) (λ x h. c.in_err-sole_number-in-File.ensures h.0 h.1)
