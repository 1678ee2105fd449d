use Rattle.std.proofs.lemmas.Result.{err_from_is_err_and}
use Rattle.script_lines.specs.Spellings.{texts}
use Rattle.script_lines.specs.Table.{IsTerm}
use Rattle.script_lines.proofs.Words.{two_not1, two_not2, missed}
use Rattle.script_lines.proofs.event.terms.Goals as goal

pub returns-in_err-message : goal.returns-in_err-message
returns-in_err-message c =
    let p = err_from_is_err_and c.from_residual.result c.from_residual.ensures.1 in
    rw (p.1, p.2) (missed _ _ c.in_err-message.field-0.0 (λ none x h. two_not1 IsTerm IsTerm (texts c.args.words.now) _ _ c.in-Some.ensures none x.0 x.1 h) c.in_err-message.ensures)

pub returns-in_err-target : goal.returns-in_err-target
returns-in_err-target c =
    let p = err_from_is_err_and c.from_residual-in_err-target.result c.from_residual-in_err-target.ensures.1 in
    rw (p.1, p.2) (missed _ _ c.in_err-target.field-0.0 (λ none x h. two_not2 IsTerm IsTerm (texts c.args.words.now) _ _ c.in-Some.ensures none x.0 x.1 h) c.in_err-target.ensures)
