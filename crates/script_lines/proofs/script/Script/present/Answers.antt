use Rattle.std.proofs.Common.{◌∙◌, subst, List, ℕ}
use Rattle.script_lines.specs.Spellings.{IsFound}
use Rattle.script_lines.specs.Table.{Spells}
use Rattle.script_lines.proofs.script.Script.present.Goals as goal

pub allowed-requires-clause-spelled : goal.allowed-requires-clause-spelled
allowed-requires-clause-spelled g c =
    subst (λ (text : List ℕ). IsFound (λ it. Spells it text) c.in_ok-parse.field-0) (c.in-Ok.ensures.cases.0 ∙ c.deref.ensures.value) c.in_ok-parse.ensures.spells
