use Rattle.std.proofs.lemmas.Result.{err_from_is_err_and}
use Rattle.std.proofs.Common.{refl, map}
use Rattle.trace_terms.specs.View.{view}
use Rattle.script_lines.specs.Spellings.{texts}
use Rattle.script_lines.specs.Table.{IsAtom, IsArguments}
use Rattle.script_lines.proofs.Words.{three_not1, three_not2, three_not3, missed}
use Rattle.script_lines.proofs.event.call.Goals as goal

pub returns-in_err-mod_name : goal.returns-in_err-mod_name
returns-in_err-mod_name c =
    let p = err_from_is_err_and c.from_residual.result c.from_residual.ensures.1 in
    rw (p.1, p.2) (missed _ _ c.in_err-mod_name.field-0.0 (λ none x h. three_not1 IsAtom IsAtom IsArguments (texts c.args.words.now) _ _ _ c.in-Some.ensures none h.0 h.1 h.2 h.3) c.in_err-mod_name.ensures)

pub returns-in_err-fun_name : goal.returns-in_err-fun_name
returns-in_err-fun_name c =
    let p = err_from_is_err_and c.from_residual-in_err-fun_name.result c.from_residual-in_err-fun_name.ensures.1 in
    rw (p.1, p.2) (missed _ _ c.in_err-fun_name.field-0.0 (λ none x h. three_not2 IsAtom IsAtom IsArguments (texts c.args.words.now) _ _ _ c.in-Some.ensures none h.0 h.1 h.2 h.3) c.in_err-fun_name.ensures)

pub returns-in_err-args : goal.returns-in_err-args
returns-in_err-args c =
    let p = err_from_is_err_and c.from_residual-in_err-args.result c.from_residual-in_err-args.ensures.1 in
    rw (p.1, p.2) (missed _ _ c.in_err-args.field-0.0 (λ none x h. three_not3 IsAtom IsAtom IsArguments (texts c.args.words.now) _ _ _ c.in-Some.ensures none h.0 h.1 h.2 h.3) c.in_err-args.ensures)

pub returns : goal.returns
returns c = (
  c.in_ok-mod_name.mod_name,
  c.in_ok-fun_name.fun_name,
  map view c.in_ok-args.args.items,
  record {
    word1 = c.in-Some.mod_name.now;
    word2 = c.in-Some.fun_name.now;
    word3 = c.in-Some.args.now;
    are = c.in-Some.ensures;
    spells1 = c.in_ok-mod_name.ensures;
    spells2 = c.in_ok-fun_name.ensures;
    spells3 = c.in_ok-args.ensures;
  },
  refl,
)
