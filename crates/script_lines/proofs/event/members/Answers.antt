use Rattle.std.proofs.lemmas.Result.{err_from_is_err_and}
use Rattle.trace_terms.specs.Data.{list}
use Rattle.trace_terms.specs.View.{view, members_of}
use Rattle.script_lines.proofs.Terms.{only_term, not_list}
use Rattle.script_lines.proofs.Words.{missed}
use Rattle.script_lines.proofs.event.members.Goals as goal

pub returns-in_err-found : goal.returns-in_err-found
returns-in_err-found c =
    let p = err_from_is_err_and c.from_residual.result c.from_residual.ensures.1 in
    rw (p.1, p.2) (missed _ _ c.in_err-found.field-0.0 (λ none x h. none (list (members_of x)) h) c.in_err-found.ensures)

pub returns : goal.returns
returns c x h = not_list c.in_ok-found.found (members_of x) c.in_default.not-List (only_term c.args.hex.now (view c.in_ok-found.found) (list (members_of x)) c.in_ok-found.ensures h)
