use Rattle.std.proofs.Common.{sym, subst, ℕ, List}
use Rattle.trace_terms.specs.View.{view}
use Rattle.script_lines.specs.Spellings.{IsBytes}
use Rattle.script_lines.proofs.Terms.{term_found}
use Rattle.script_lines.proofs.Words.{found_as, spelled_weaker}
use Rattle.script_lines.proofs.event.term.Goals as goal

pub returns : goal.returns
returns c = spelled_weaker _ _ _ _ c.whole_term.result (λ o. term_found view c.args.hex.now _ o (subst (λ (b : List ℕ). IsBytes c.args.hex.now b) (sym c.deref.ensures.value) (found_as _ _ _ _ c.in-Some.is c.in_ok-bytes.ensures))) c.whole_term.ensures
