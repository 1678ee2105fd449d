use Rattle.std.proofs.Common.{◌∷◌, ◌++◌}
use Rattle.trace_text.specs.Pretty.{leaf_text}
use Rattle.trace_text.proofs.message.Called.of_name.Goals as goal

pub returns : goal.returns
returns c = λ f by. c.front.ensures (leaf_text f.of_name) (44 ∷ (by.own ++ by.rest)) by.named by.name_size
