use Rattle.std.proofs.lemmas.Result.{err_from_is_err_and}
use Rattle.std.proofs.Common.{refl, ℕ}
use Rattle.trace_terms.specs.View.{view}
use Rattle.script_lines.specs.Spellings.{texts, Three, First}
use Rattle.script_lines.specs.Table.{IsAtom, IsArity, IsTerm}
use Rattle.script_lines.proofs.Words.{first_not, first_not_others, missed}
use Rattle.script_lines.proofs.event.exception_from.Goals as goal

pub returns-in_err-mod_name : goal.returns-in_err-mod_name
returns-in_err-mod_name c =
    let p = err_from_is_err_and c.from_residual.result c.from_residual.ensures.1 in
    rw (p.1, p.2) (missed _ _ c.in_err-mod_name.field-0.0 (λ none x h. first_not IsAtom (λ ws (_ : ℕ). First IsAtom (λ vs (_ : ℕ). Three IsArity IsAtom IsTerm vs h.3 h.2 h.4) ws h.1 0) (texts c.args.words.now) _ _ c.in-Some.ensures none h.0 0 h.5) c.in_err-mod_name.ensures)

pub returns-in_err-fun_name : goal.returns-in_err-fun_name
returns-in_err-fun_name c =
    let p = err_from_is_err_and c.from_residual-in_err-fun_name.result c.from_residual-in_err-fun_name.ensures.1 in
    rw (p.1, p.2) (missed _ _ c.in_err-fun_name.field-0.0 (λ none x h. first_not_others IsAtom (λ ws (_ : ℕ). First IsAtom (λ vs (_ : ℕ). Three IsArity IsAtom IsTerm vs h.3 h.2 h.4) ws h.1 0) (texts c.args.words.now) _ _ c.in-Some.ensures (λ _ s. first_not IsAtom (λ vs (_ : ℕ). Three IsArity IsAtom IsTerm vs h.3 h.2 h.4) (texts c.in-Some.behind.now) _ _ c.in-Some-first.ensures none h.1 0 s) h.0 0 h.5) c.in_err-fun_name.ensures)

pub returns-in_err-arity : goal.returns-in_err-arity
returns-in_err-arity c =
    let p = err_from_is_err_and c.from_residual-in_err-arity.result c.from_residual-in_err-arity.ensures.1 in
    rw (p.1, p.2) (missed _ _ c.in_err-arity.field-0.0 (λ none x h. first_not_others IsAtom (λ ws (_ : ℕ). First IsAtom (λ vs (_ : ℕ). Three IsArity IsAtom IsTerm vs h.3 h.2 h.4) ws h.1 0) (texts c.args.words.now) _ _ c.in-Some.ensures (λ _ s. first_not_others IsAtom (λ vs (_ : ℕ). Three IsArity IsAtom IsTerm vs h.3 h.2 h.4) (texts c.in-Some.behind.now) _ _ c.in-Some-first.ensures (λ _ t. none (h.3, h.2, h.4) t) h.1 0 s) h.0 0 h.5) c.in_err-arity.ensures)

pub returns : goal.returns
returns c = (
  c.in_ok-mod_name.mod_name,
  c.in_ok-fun_name.fun_name,
  c.in_ok-arity.kind,
  c.in_ok-arity.arity,
  view c.in_ok-arity.value,
  record {
    word = c.in-Some.mod_name.now;
    others = texts c.in-Some.behind.now;
    are = c.in-Some.ensures;
    spells = c.in_ok-mod_name.ensures;
    spells_others = record {
      word = c.in-Some-first.fun_name.now;
      others = texts c.in-Some-first.others.now;
      are = c.in-Some-first.ensures;
      spells = c.in_ok-fun_name.ensures;
      spells_others = c.in_ok-arity.ensures;
    };
  },
  refl,
)
