use Rattle.std.proofs.lemmas.Result.{err_from_is_err_and}
use Rattle.std.proofs.Common.{refl, ℕ}
use Rattle.trace_terms.specs.View.{view}
use Rattle.script_lines.specs.Spellings.{texts, Three}
use Rattle.script_lines.specs.Table.{IsAtom, IsArity, IsTerm}
use Rattle.script_lines.proofs.Words.{first_not, first_not_others, missed}
use Rattle.script_lines.proofs.event.return_from.Goals as goal

pub returns-in_err-mod_name : goal.returns-in_err-mod_name
returns-in_err-mod_name c =
    let p = err_from_is_err_and c.from_residual.result c.from_residual.ensures.1 in
    rw (p.1, p.2) (missed _ _ c.in_err-mod_name.field-0.0 (λ none x h. first_not IsAtom (λ ws (_ : ℕ). Three IsAtom IsArity IsTerm ws h.1 h.2 h.3) (texts c.args.words.now) _ _ c.in-Some.ensures none h.0 0 h.4) c.in_err-mod_name.ensures)

pub returns-in_err-fun_name : goal.returns-in_err-fun_name
returns-in_err-fun_name c =
    let p = err_from_is_err_and c.from_residual-in_err-fun_name.result c.from_residual-in_err-fun_name.ensures.1 in
    rw (p.1, p.2) (missed _ _ c.in_err-fun_name.field-0.0 (λ none x h. first_not_others IsAtom (λ ws (_ : ℕ). Three IsAtom IsArity IsTerm ws h.1 h.2 h.3) (texts c.args.words.now) _ _ c.in-Some.ensures (λ _ s. none (h.1, h.2, h.3) s) h.0 0 h.4) c.in_err-fun_name.ensures)

pub returns : goal.returns
returns c = (
  c.in_ok-mod_name.mod_name,
  c.in_ok-fun_name.fun_name,
  c.in_ok-fun_name.arity,
  view c.in_ok-fun_name.value,
  record {
    word = c.in-Some.mod_name.now;
    others = texts c.in-Some.others.now;
    are = c.in-Some.ensures;
    spells = c.in_ok-mod_name.ensures;
    spells_others = c.in_ok-fun_name.ensures;
  },
  refl,
)
