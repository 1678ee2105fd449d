use Rattle.std.proofs.Common.{rules}
use Rattle.import.proofs.Fronts.{long_head}
use Rattle.import.proofs.front.long_size_in.Goals as goal

pub returns-clause-some : goal.returns-clause-some
returns-clause-some c = long_head c.from.result c.args.bytes.now c.requires (search rules) (search rules) (search rules) (search rules) (search rules)
