use Rattle.std.proofs.Common.{◌∷◌}
use Rattle.trace_text.specs.Pretty.{leaf_text}
use Rattle.trace_text.proofs.message.Called.of_module.Goals as goal

pub returns : goal.returns
returns c = λ f by. c.front.ensures (leaf_text f.of_module) (44 ∷ c.args.self.now.from_name.now) by.text by.module_size
