use Rattle.std.proofs.Common.{arith, sym, ◌∙◌, ◌≡◌}
use Rattle.script_lines.proofs.Words.{any_number, one_sole, no_value}
use Rattle.script_lines.proofs.Numbers.{only_number}
use Rattle.script_lines.specs.Spellings.{IsNumber, texts}
use Rattle.script_lines.proofs.desk_line.mono.Goals as goal

pub returns-in_err-sole_number : goal.returns-in_err-sole_number
returns-in_err-sole_number c = rw c.from_residual.ensures (λ x h. c.in_err-sole_number.ensures h.0 (any_number _ _ (texts c.args.words.now) h.0 h.1))

pub returns-in_err-nanos : goal.returns-in_err-nanos
returns-in_err-nanos c = rw c.from_residual-in_err-nanos.ensures (λ x h.
    let e : c.in_ok-sole_number.field-0 ≡ h.0 = one_sole IsNumber only_number (texts c.args.words.now) c.in_ok-sole_number.field-0 h.0 c.in_ok-sole_number.ensures (any_number _ _ (texts c.args.words.now) h.0 h.1) in
    no_value _ _ c.try_from.result (sym c.ok.ensures.value ∙ c.in_err-nanos.was) c.try_from.ensures (omega (arith, e, h.1.spells.most_kept)))
