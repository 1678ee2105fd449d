use Rattle.std.proofs.Common.{sym, ap, ◌∙◌, ◌≡◌, List, ℕ, Bor}
use Rattle.std.proofs.lemmas.Result.{IfOk-weaker}
use Rattle.script_lines.specs.Spellings.{texts, words}
use Rattle.script_lines.specs.Table.{Row}
use Rattle.script_lines.proofs.Keywords.{behind}
use Rattle.script_lines.proofs.line.parse.Goals as goal

pub returns-in_default-clause-spells : goal.returns-in_default-clause-spells
returns-in_default-clause-spells c line h =
    let same : texts c.as_slice.result.now ≡ words c.args.text.now = ap (λ (ws : List (Bor (List ℕ))). texts ws) c.as_slice.ensures.value ∙ c.in_ok-words.ensures in
    c.in_default.ensures (h.keyword, h.others) (same ∙ h.begins)

pub returns-clause-spells : goal.returns-clause-spells
returns-clause-spells c =
    let same : texts c.as_slice.result.now ≡ words c.args.text.now = ap (λ (ws : List (Bor (List ℕ))). texts ws) c.as_slice.ensures.value ∙ c.in_ok-words.ensures in
    IfOk-weaker c.row.result _ _ (λ o. behind Row (words c.args.text.now) (texts c.in-Some.others.now) c.in-Some.keyword o (sym same ∙ c.in-Some.ensures)) c.row.ensures
