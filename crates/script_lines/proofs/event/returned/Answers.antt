use Rattle.std.proofs.lemmas.Result.{err_from_is_err_and}
use Rattle.script_lines.specs.Spellings.{texts}
use Rattle.script_lines.specs.Table.{IsAtom, IsArity, IsTerm}
use Rattle.script_lines.proofs.Words.{three_not1, three_not3, missed}
use Rattle.script_lines.proofs.event.returned.Goals as goal

pub returns-in_err-fun_name : goal.returns-in_err-fun_name
returns-in_err-fun_name c =
    let p = err_from_is_err_and c.from_residual.result c.from_residual.ensures.1 in
    rw (p.1, p.2) (missed _ _ c.in_err-fun_name.field-0.0 (λ none x h. three_not1 IsAtom IsArity IsTerm (texts c.args.words.now) _ _ _ c.in-Some.ensures none x.0 x.1 x.2 h) c.in_err-fun_name.ensures)

pub returns-in_err-value : goal.returns-in_err-value
returns-in_err-value c =
    let p = err_from_is_err_and c.from_residual-in_err-value.result c.from_residual-in_err-value.ensures.1 in
    rw (p.1, p.2) (missed _ _ c.in_err-value.field-0.0 (λ none x h. three_not3 IsAtom IsArity IsTerm (texts c.args.words.now) _ _ _ c.in-Some.ensures none x.0 x.1 x.2 h) c.in_err-value.ensures)
