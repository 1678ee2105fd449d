use Rattle.std.proofs.Common.{refl, subst, ◌≡◌, ◌≤◌, ℕ, List, length}
use Rattle.script_lines.specs.Spellings.{Sole, texts}
use Rattle.script_lines.specs.Table.{IsHeld}
use Rattle.script_lines.proofs.One.{one_message}
use Rattle.script_lines.proofs.Words.{found_as}
use Rattle.script_lines.proofs.line.message.Goals as goal

pub returns : goal.returns
returns c = (c.in-Some-2.found, record { word = c.in-Some.hex.now; are = c.in-Some.ensures; spells = found_as _ _ _ _ c.in-Some-2.is c.in_ok-found.ensures }, c.is_lawful.ensures.0 c.if-not-is_lawful.false, refl)

pub returns-then-not-is_lawful : goal.returns-then-not-is_lawful
returns-then-not-is_lawful c x h =
    let sole : Sole IsHeld (texts c.args.words.now) c.in-Some-2.found = record { word = c.in-Some.hex.now; are = c.in-Some.ensures; spells = found_as _ _ _ _ c.in-Some-2.is c.in_ok-found.ensures } in
    let same : h.0.items ≡ c.in-Some-2.found.items = one_message (texts c.args.words.now) h.0 c.in-Some-2.found h.1 sole in
    let lawful = c.is_lawful.ensures.1 (subst (λ (bytes : List ℕ). length bytes ≤ 65531) same h.2) in
    cc
