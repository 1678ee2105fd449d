use Rattle.std.proofs.lemmas.Result.{err_from_is_err_and}
use Rattle.script_lines.specs.Spellings.{texts}
use Rattle.script_lines.specs.Table.{IsAtom, IsArity, IsTerm}
use Rattle.script_lines.proofs.Words.{three_not2, three_not3, missed}
use Rattle.script_lines.proofs.event.thrown.Goals as goal

pub returns-in_err-kind : goal.returns-in_err-kind
returns-in_err-kind c =
    let p = err_from_is_err_and c.from_residual.result c.from_residual.ensures.1 in
    rw (p.1, p.2) (missed _ _ c.in_err-kind.field-0.0 (λ none x h. three_not2 IsArity IsAtom IsTerm (texts c.args.words.now) _ _ _ c.in-Some.ensures none x.0 x.1 x.2 h) c.in_err-kind.ensures)

pub returns-in_err-value : goal.returns-in_err-value
returns-in_err-value c =
    let p = err_from_is_err_and c.from_residual-in_err-value.result c.from_residual-in_err-value.ensures.1 in
    rw (p.1, p.2) (missed _ _ c.in_err-value.field-0.0 (λ none x h. three_not3 IsArity IsAtom IsTerm (texts c.args.words.now) _ _ _ c.in-Some.ensures none x.0 x.1 x.2 h) c.in_err-value.ensures)
