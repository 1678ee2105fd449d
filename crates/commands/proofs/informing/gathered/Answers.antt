use Rattle.std.proofs.Common.{◌∙◌}
use Rattle.commands.proofs.informing.gathered.Goals as goal

pub loop-one-init : goal.loop-one-init
loop-one-init c = c.new-info.ensures

pub loop-one-preserved : goal.loop-one-preserved
loop-one-preserved c = c.in_ok-add.ensures ∙ c.loop-one.invariant

pub returns : goal.returns
returns c = c.loop-one.invariant
