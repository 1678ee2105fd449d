-- The one spelling that encoding gives.
use Rattle.std.specs.Prelude.{ℕ, suc, ◌^◌, ℤ, pos, negsuc, List, [], ◌∷◌, ◌++◌, length, take, Bool, true, false, ◌&&◌, nat_lt, ◌==◌, if◌then◌else◌}
use Rattle.std.specs.Int.{w16, w32, w64, to_be_bytes, to_le_bytes, cast_unsigned}
use Rattle.trace_terms.specs.Data.{Data, int, atom, pid, tuple, list, binary, Members, no_members, member}
use Rattle.ext_format.specs.Members.{member_count}
use Rattle.ext_format.specs.Spelling.{sized, pid_fields}

-- the fewest bytes of a number from 2 ^ 31 on
abbrev pub digit_count : ℕ → ℕ
digit_count size = if nat_lt size (2 ^ 32) then 4 else if nat_lt size (2 ^ 40) then 5 else if nat_lt size (2 ^ 48) then 6 else if nat_lt size (2 ^ 56) then 7 else 8

-- SMALL_BIG_EXT with the fewest bytes
unfoldable pub big_form : ℕ → ℕ → List ℕ
big_form sign size = 110 ∷ digit_count size ∷ sign ∷ take (digit_count size) (to_le_bytes w64 size)

-- a number: SMALL_INTEGER_EXT for a byte, INTEGER_EXT for 32 bits, else SMALL_BIG_EXT
unfoldable pub integer_form : ℤ → List ℕ
integer_form (pos n) = if nat_lt n (2 ^ 8) then 97 ∷ n ∷ [] else if nat_lt n (2 ^ 31) then 98 ∷ to_be_bytes w32 n else big_form 0 n
integer_form (negsuc n) = if nat_lt n (2 ^ 31) then 98 ∷ to_be_bytes w32 (cast_unsigned w32 (negsuc n)) else big_form 1 (suc n)

-- an atom: SMALL_ATOM_UTF8_EXT up to 255 bytes, else ATOM_UTF8_EXT
unfoldable pub atom_form : List ℕ → List ℕ
atom_form text = if nat_lt (length text) (2 ^ 8) then 119 ∷ length text ∷ text else 118 ∷ sized w16 text

-- a tuple's form without its elements: SMALL_TUPLE_EXT up to 255, else LARGE_TUPLE_EXT
unfoldable pub arity_form : ℕ → List ℕ
arity_form arity = if nat_lt arity (2 ^ 8) then 104 ∷ arity ∷ [] else 105 ∷ to_be_bytes w32 arity

-- an integer from 0 to 255
abbrev pub is_byte : Data → Bool
is_byte (int (pos n)) = nat_lt n (2 ^ 8)
is_byte t = false

-- its value
abbrev pub byte_value : Data → ℕ
byte_value (int (pos n)) = n
byte_value t = 0

-- all members are such integers
abbrev pub are_bytes : Members → Bool
are_bytes no_members = true
are_bytes (member t ts) = is_byte t && are_bytes ts

-- their values
abbrev pub byte_values : Members → List ℕ
byte_values no_members = []
byte_values (member t ts) = byte_value t ∷ byte_values ts

-- whether a list is spelled as a string
abbrev pub is_string : Members → Bool
is_string ts = nat_lt (member_count ts) (2 ^ 16) && are_bytes ts

-- a list whose members have these forms: NIL_EXT, STRING_EXT or LIST_EXT
unfoldable pub list_form : Members → List ℕ → List ℕ
list_form ts forms =
    if member_count ts == 0 then 106 ∷ []
    else if is_string ts then 107 ∷ to_be_bytes w16 (member_count ts) ++ byte_values ts
    else 108 ∷ to_be_bytes w32 (member_count ts) ++ forms ++ 106 ∷ []

abbrev mutual
  -- the one form of a term that encoding gives
  pub canonical_form : Data → List ℕ
  canonical_form (int z) = integer_form z
  canonical_form (atom text) = atom_form text
  canonical_form (pid p) = 88 ∷ pid_fields w32 p (atom_form p.node)
  canonical_form (tuple ts) = arity_form (member_count ts) ++ canonical_forms ts
  canonical_form (list ts) = list_form ts (canonical_forms ts)
  canonical_form (binary bytes) = 109 ∷ sized w32 bytes

  -- those of members, one after the other
  pub canonical_forms : Members → List ℕ
  canonical_forms no_members = []
  canonical_forms (member t ts) = canonical_form t ++ canonical_forms ts

-- the version and the form
abbrev pub canonical : Data → List ℕ
canonical t = 131 ∷ canonical_form t
