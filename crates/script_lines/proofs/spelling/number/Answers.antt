use Rattle.std.proofs.Common.{refl, IsTrue, ◌≡◌, false, sym, subst, length, get_or, List, ℕ, ◌<◌}
use Rattle.std.specs.List.{list_all}
use Rattle.std.specs.Char.{is_ascii_digit}
use Rattle.script_lines.proofs.Numbers.{not_zero_led, not_digits, parsed}
use Rattle.script_lines.proofs.spelling.number.Goals as goal
use Rattle.script_lines.proofs.spelling.number.Goals.{then-has_leading_zero-via-then-has_leading_zero, then-has_leading_zero-via-else-has_leading_zero+then-not-has_only_digits}

pub returns-then-has_leading_zero : goal.returns-then-has_leading_zero
returns-then-has_leading_zero c n h =
    elim c.then-has_leading_zero.branch [
      | then-has_leading_zero-via-then-has_leading_zero w ↦
          let P : List ℕ → Type 0 = λ ds. (get_or ds 0 0 ≡ 48) × (1 < length ds) in
          let k = subst P c.as_bytes-digits.ensures.value (w.if-has_leading_zero.ensures.0 refl) in
          not_zero_led c.args.word.now n k.0 k.1 h
      | then-has_leading_zero-via-else-has_leading_zero+then-not-has_only_digits w ↦
          let k : list_all is_ascii_digit c.args.word.now ≡ false = cc in not_digits c.args.word.now n k h
    ]

pub returns : goal.returns
returns c =
    let P : List ℕ → Type 0 = λ ds. (get_or ds 0 0 ≡ 48) × (1 < length ds) in
    parsed c.args.word.now c.parse.result c.ok.result c.parse.ensures.value.0 (cc)
    (λ zero longer. let k : IsTrue false = c.if-has_leading_zero.ensures.1 (subst P (sym c.as_bytes-digits.ensures.value) (zero, longer)) in cc) c.ok.ensures.value
