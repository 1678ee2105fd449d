-- How a float is written.
use Rattle.std.specs.Prelude.{◌≡◌, ℕ, Bool, List, [], ◌∷◌, ◌++◌, Some, codes, from_bits}
use Rattle.std.specs.Float.{binary64}
use Rattle.std.specs.Float.Numeral.{Parts, exponent_text}
use Rattle.std.specs.Fmt.{sign_text}
use Rattle.std.specs.Str.Parse.{AllDigits, IsNumeral}
use Rattle.ryu.specs.Parse.{parse_float}

-- a text that reads back as the float with these bits
abbrev pub ReadsBack : ℕ → List ℕ → Type 0
ReadsBack bits text = parse_float binary64 text ≡ Some (from_bits binary64 bits)

-- perhaps a minus, digits, a point, digits, and perhaps an exponent of digits, with perhaps a minus: 1.0, -12.5e-7
abbrev pub IsPointed : List ℕ → Type 0
IsPointed text =
    (negative exponent_negative : Bool) × (whole fraction exponent : List ℕ) × (text ≡ sign_text negative ++ (whole ++ (codes "." ++ (fraction ++ exponent_text exponent_negative exponent))))
    × IsNumeral 10 whole × IsNumeral 10 fraction × AllDigits 10 exponent

-- a text of a float with these bits: one with a point that reads back as it
abbrev pub IsFloatText : ℕ → List ℕ → Type 0
IsFloatText bits text = IsPointed text × ReadsBack bits text

-- digits, and 0 where there are none
abbrev pub digits_or_zero : List ℕ → List ℕ
digits_or_zero [] = codes "0"
digits_or_zero (d ∷ ds) = d ∷ ds

-- a numeral with a point, and digits on both sides of it
abbrev pub with_point : Parts → List ℕ
with_point p = digits_or_zero p.whole ++ (codes "." ++ (digits_or_zero p.fraction ++ exponent_text p.exponent_negative p.exponent))
