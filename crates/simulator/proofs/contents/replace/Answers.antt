use Rattle.std.proofs.lemmas.List.{map-set}
use Rattle.simulator.proofs.contents.replace.Goals as goal

pub returns : goal.returns
returns c = map-set _ c.args.contents.now.items c.args.file c.args.own
