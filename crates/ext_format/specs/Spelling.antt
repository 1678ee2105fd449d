-- Which bytes spell a term.
use Rattle.std.specs.Prelude.{◌≡◌, ℕ, zero, suc, ◌<◌, ◌≤◌, ◌+◌, ◌*◌, ◌^◌, ℤ, pos, neg_ℤ, List, [], ◌∷◌, ◌++◌, length}
use Rattle.std.specs.Int.{Width, w8, w16, w32, w64, to_be_bytes, cast_unsigned}
use Rattle.std.specs.Int.RustNames.{FitsSigned}
use Rattle.std.specs.Str.{IsUtf8, chars, encode_utf8_all}
use Rattle.trace_terms.specs.declared.term.Pid.{Pid}
use Rattle.trace_terms.specs.Data.{Data, int, atom, pid, tuple, list, binary, Members, no_members, member, depth}
use Rattle.ext_format.specs.Members.{integers, member_count}

-- a length, and that many bytes
abbrev pub sized : Width → List ℕ → List ℕ
sized w bytes = to_be_bytes w (length bytes) ++ bytes

-- the text of an atom is UTF-8 of at most 255 characters
pub record IsText (text : List ℕ) : Type 0 where
  pub utf8 : IsUtf8 text
  pub short : length (chars text) ≤ 255

-- the number that bytes write, the least significant first
abbrev pub little_endian : List ℕ → ℕ
little_endian [] = 0
little_endian (b ∷ bs) = b + 256 * little_endian bs

-- every sign but 0 is negative
abbrev pub with_sign : ℕ → ℕ → ℤ
with_sign zero size = pos size
with_sign (suc sign) size = neg_ℤ (pos size)

-- the forms of an atom's text
pub data AtomForm : List ℕ → List ℕ → Type 0 where
  -- SMALL_ATOM_UTF8_EXT
  small_atom_utf8 : (text : List ℕ) → IsText text → length text < 2 ^ 8 → AtomForm text (119 ∷ sized w8 text)
  -- ATOM_UTF8_EXT
  atom_utf8 : (text : List ℕ) → IsText text → length text < 2 ^ 16 → AtomForm text (118 ∷ sized w16 text)
  -- SMALL_ATOM_EXT: the codes of the characters, in Latin-1
  small_atom : (codes : List ℕ) → IsText (encode_utf8_all codes) → length codes < 2 ^ 8 → AtomForm (encode_utf8_all codes) (115 ∷ sized w8 codes)
  -- ATOM_EXT: the same, with a length of two bytes
  old_atom : (codes : List ℕ) → IsText (encode_utf8_all codes) → length codes < 2 ^ 16 → AtomForm (encode_utf8_all codes) (100 ∷ sized w16 codes)

-- a node and the numbers, the last of the width w
abbrev pub pid_fields : Width → Pid → List ℕ → List ℕ
pid_fields w p node = node ++ to_be_bytes w32 p.id ++ to_be_bytes w32 p.serial ++ to_be_bytes w p.creation

-- what fits the fields of a pid
pub record FitsPid (limit : ℕ) (p : Pid) : Type 0 where
  pub id : p.id < 2 ^ 32
  pub serial : p.serial < 2 ^ 32
  pub creation : p.creation < limit

mutual
  -- the forms of a term, without the version: one for each section of the External Term Format
  pub data Form : Data → List ℕ → Type 0 where
    -- SMALL_INTEGER_EXT: an unsigned byte
    small_integer : (n : ℕ) → n < 2 ^ 8 → Form (int (pos n)) (97 ∷ to_be_bytes w8 n)
    -- INTEGER_EXT: four bytes, signed
    integer : (z : ℤ) → FitsSigned w32 z → Form (int z) (98 ∷ to_be_bytes w32 (cast_unsigned w32 z))
    -- SMALL_BIG_EXT: the number of bytes, the sign, the bytes; leading zeros are taken
    small_big : (sign : ℕ) (digits : List ℕ) → sign < 2 ^ 8 → length digits < 2 ^ 8 → FitsSigned w64 (with_sign sign (little_endian digits))
        → Form (int (with_sign sign (little_endian digits))) (110 ∷ (to_be_bytes w8 (length digits) ++ to_be_bytes w8 sign ++ digits))
    -- one of the four forms of an atom
    an_atom : (text form : List ℕ) → AtomForm text form → Form (atom text) form
    -- NEW_PID_EXT
    new_pid : (p : Pid) (node : List ℕ) → AtomForm p.node node → FitsPid (2 ^ 32) p → Form (pid p) (88 ∷ pid_fields w32 p node)
    -- PID_EXT: creation has one byte
    old_pid : (p : Pid) (node : List ℕ) → AtomForm p.node node → FitsPid (2 ^ 8) p → Form (pid p) (103 ∷ pid_fields w8 p node)
    -- SMALL_TUPLE_EXT: the arity has one byte
    small_tuple : (ts : Members) (forms : List ℕ) → Forms ts forms → member_count ts < 2 ^ 8 → Form (tuple ts) (104 ∷ (to_be_bytes w8 (member_count ts) ++ forms))
    -- LARGE_TUPLE_EXT: the arity has four bytes
    large_tuple : (ts : Members) (forms : List ℕ) → Forms ts forms → member_count ts < 2 ^ 32 → Form (tuple ts) (105 ∷ (to_be_bytes w32 (member_count ts) ++ forms))
    -- NIL_EXT
    nil : Form (list no_members) (106 ∷ [])
    -- STRING_EXT: a byte for each integer
    string : (bytes : List ℕ) → length bytes < 2 ^ 16 → Form (list (integers bytes)) (107 ∷ sized w16 bytes)
    -- LIST_EXT: the tail is NIL_EXT
    a_list : (ts : Members) (forms : List ℕ) → Forms ts forms → member_count ts < 2 ^ 32 → Form (list ts) (108 ∷ (to_be_bytes w32 (member_count ts) ++ forms ++ 106 ∷ []))
    -- BINARY_EXT
    a_binary : (bytes : List ℕ) → length bytes < 2 ^ 32 → Form (binary bytes) (109 ∷ sized w32 bytes)

  -- the forms of members, one after the other
  pub data Forms : Members → List ℕ → Type 0 where
    no_forms : Forms no_members []
    form : (t : Data) (ts : Members) (first others : List ℕ) → Form t first → Forms ts others → Forms (member t ts) (first ++ others)

-- The bytes are the version and a form of the term, which isn't too deep.
pub record Spells (t : Data) (bytes : List ℕ) : Type 0 where
  pub form : List ℕ
  pub is_form : Form t form
  pub behind_version : bytes ≡ 131 ∷ form
  pub not_too_deep : depth t ≤ 64
