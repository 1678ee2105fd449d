use Rattle.script_lines.proofs.line.left.Goals as goal

pub returns-in_err-byte-in-Low : goal.returns-in_err-byte-in-Low
returns-in_err-byte-in-Low c = rw (c.from_residual.ensures, c.in-Low.is) (λ x h. c.in_err-byte-in-Low.ensures h.0 h.1)

pub returns-in_err-byte-in-High : goal.returns-in_err-byte-in-High
returns-in_err-byte-in-High c = rw (c.from_residual-in_err-byte-in-High.ensures, c.in-High.is) (λ x h. c.in_err-byte-in-High.ensures h.0 h.1)
