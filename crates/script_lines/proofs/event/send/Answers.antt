use Rattle.std.proofs.lemmas.Result.{err_from_is_err_and}
use Rattle.script_lines.proofs.Words.{missed}
use Rattle.script_lines.proofs.event.send.Goals as goal

pub returns-in_err-message : goal.returns-in_err-message
returns-in_err-message c =
    let p = err_from_is_err_and c.from_residual.result c.from_residual.ensures.1 in
    rw (p.1, p.2) (missed _ _ c.in_err-message.field-0.0 (λ none x h. none (h.0, h.1) h.2) c.in_err-message.ensures)
