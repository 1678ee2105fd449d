-- What fits the fields of a `Term`.
use Rattle.std.proofs.Common.{◌≡◌, ◌^◌, ◌<◌, true, pos, Result, Ok, Err, arith}
use Rattle.std.specs.Prelude.{OnOk}
use Rattle.std.proofs.lemmas.Bool.{ltb-true, and_parts}
use Rattle.trace_terms.specs.Data.{Data, int, Members, no_members, member}
use Rattle.ext_format.specs.Fits.{Fits, AllFit}
use Rattle.ext_format.specs.Canonical.{is_byte, are_bytes}

-- a fact holds also where a call answered `Ok`
pub on_ok_always : {A E P : Type 0} (r : Result A E) → P → OnOk r P
on_ok_always (Ok x) p = p
on_ok_always (Err e) p = tt

byte_fits : (t : Data) → is_byte t ≡ true → Fits t
byte_fits (int (pos n)) e = let lt : n < 2 ^ 8 = ltb-true n (2 ^ 8) e in record { sfits = omega arith }
byte_fits t e = absurd cc

pub bytes_fit : (ts : Members) → are_bytes ts ≡ true → AllFit ts
bytes_fit no_members e = tt
bytes_fit (member t ts) e = let both = and_parts (is_byte t) (are_bytes ts) e in (byte_fits t both.0, bytes_fit ts both.1)
