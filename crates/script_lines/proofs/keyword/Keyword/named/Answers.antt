use Rattle.std.proofs.Common.{arith, sym, ◌∙◌, refl, ◌≤◌}
use Rattle.script_lines.specs.Keywords.{keyword_among}
use Rattle.script_lines.proofs.Keywords.{at_row, past_row, past_rows}
use Rattle.script_lines.proofs.keyword.Keyword.named.Goals as goal

pub loop-named-init : goal.loop-named-init
unfolding keyword_among
loop-named-init c = refl

pub returns-then-eq : goal.returns-then-eq
returns-then-eq c = at_row _ c.loop-named.named-index _ c.args.text.now _ c.loop-named.invariant c.loop-named-test.true (sym c.eq.ensures ∙ c.if-eq.true)

pub loop-named-preserved : goal.loop-named-preserved
loop-named-preserved c = past_row _ c.loop-named.named-index _ c.args.text.now _ c.loop-named.invariant c.loop-named-test.true (sym c.eq.ensures ∙ c.if-eq.false)

pub returns : goal.returns
returns c = let all : 37 ≤ c.loop-named.named-index = omega arith in past_rows _ c.loop-named.named-index c.args.text.now _ c.loop-named.invariant all
