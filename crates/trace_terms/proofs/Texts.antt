-- How many characters a text has.
use Rattle.std.proofs.Common.{◌≤◌, List, ℕ, length, arith, ap}
use Rattle.std.specs.Str.{IsUtf8, chars}
use Rattle.std.proofs.lemmas.Str.{length-le-encodes, encodes-chars}

-- each character takes a byte at least
pub chars_le_bytes : (text : List ℕ) → IsUtf8 text → length (chars text) ≤ length text
chars_le_bytes text is = omega (arith, length-le-encodes (chars text), ap length (encodes-chars text is))
