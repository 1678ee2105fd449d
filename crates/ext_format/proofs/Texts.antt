-- Texts of atoms.
use Rattle.std.proofs.Common.{◌≡◌, ℕ, ◌*◌, ◌^◌, ◌<◌, ◌≤◌, Bool, true, false, List, [], ◌∷◌, length, Ok, Err, refl, ap, sym, subst, arith}
use Rattle.std.specs.Str.{IsAscii, IsUtf8, is_utf8, chars, encode_utf8_all}
use Rattle.std.proofs.lemmas.Bool.{lt-ltb}
use Rattle.std.proofs.Math.Utf8.{encode, encodes}
use Rattle.std.proofs.lemmas.List.{length-append}
use Rattle.std.proofs.lemmas.Str.{IsUtf8-from_is_utf8, is_utf8-from_IsUtf8, chars-encodes, chars-IsAscii, encodes-IsAscii, encodes-chars, length-encode, len_utf8_bounds}
use Rattle.ext_format.specs.declared.fault.DecodeFault.TheVariants.{BadText, AtomTooLong}
use Rattle.ext_format.specs.Reading.{short_text, utf8_text, latin1_text}
use Rattle.ext_format.proofs.FieldLaws.{IsBytes}
use Rattle.ext_format.proofs.AtomLaws.{scalars-bytes, is_short-again, utf8_again}
use Rattle.ext_format.specs.Spelling.{IsText}

pub utf8_text-IsUtf8 : (bytes : List ℕ) → IsUtf8 bytes → utf8_text bytes ≡ short_text bytes
unfolding utf8_text
utf8_text-IsUtf8 bytes is = rw (is_utf8-from_IsUtf8 bytes is) refl

decided : (bytes : List ℕ) (b : Bool) → is_utf8 bytes ≡ b → ¬ (IsUtf8 bytes) → b ≡ false
decided bytes true e other = absurd (other (IsUtf8-from_is_utf8 bytes e))
decided bytes false e other = refl

pub utf8_text-not_IsUtf8 : (bytes : List ℕ) → ¬ (IsUtf8 bytes) → utf8_text bytes ≡ Err BadText
unfolding utf8_text
utf8_text-not_IsUtf8 bytes other = rw (decided bytes (is_utf8 bytes) refl other) refl

-- each byte is a character
pub latin1_text-long : (codes : List ℕ) → IsBytes codes → 255 < length codes → latin1_text codes ≡ Err AtomTooLong
latin1_text-long codes fits long =
    let one_each : chars (encode_utf8_all codes) ≡ codes = chars-encodes codes (scalars-bytes codes fits) in
    rw (one_each, lt-ltb 255 (length codes) long) refl

-- ---- ASCII

ascii_is_text : (text : List ℕ) → IsAscii text → length text ≤ 255 → IsText text
ascii_is_text text ascii short = record {
  utf8 = (text, (scalars-bytes text (λ i. omega (arith, ascii i)), encodes-IsAscii text ascii));
  short = omega (arith, short, ap length (chars-IsAscii text ascii));
}

pub utf8_text-ascii : (text : List ℕ) → IsAscii text → length text ≤ 255 → utf8_text text ≡ Ok text
utf8_text-ascii text ascii short = utf8_again text (ascii_is_text text ascii short)

pub latin1_text-ascii : (text : List ℕ) → IsAscii text → length text ≤ 255 → latin1_text text ≡ Ok text
latin1_text-ascii text ascii short = subst (λ (l : List ℕ). short_text l ≡ Ok text) (sym (encodes-IsAscii text ascii)) (is_short-again text (ascii_is_text text ascii short))

-- ---- how many bytes a text has

encodes_le : (cs : List ℕ) → length (encodes cs) ≤ 4 * length cs
encodes_le [] = omega arith
encodes_le (c ∷ cs) = omega (arith, encodes_le cs, length-append (encode c) (encodes cs), length-encode c, (len_utf8_bounds c).1)

-- its length fits two bytes
pub short_text_bytes : (text : List ℕ) → IsUtf8 text → length (chars text) ≤ 255 → length text < 2 ^ 16
short_text_bytes text is short = omega (arith, encodes_le (chars text), ap length (encodes-chars text is))
