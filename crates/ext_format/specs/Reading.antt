-- Reading from left to right, with the first fault that is met.
use Rattle.std.specs.Prelude.{◌≡◌, ℕ, zero, suc, ◌-◌, ◌^◌, ℤ, pos, neg_ℤ, List, length, take, drop, Result, Ok, Err, nat_lt, nat_le, ◌==◌, if◌then◌else◌}
use Rattle.std.specs.Int.{Width, w8, w16, w32, byte_len, from_be_bytes, cast_signed}
use Rattle.std.specs.Option.{ok_or}
use Rattle.std.specs.Str.{is_utf8, chars, encode_utf8_all}
use Rattle.trace_terms.specs.declared.term.Pid.{Pid}
use Rattle.trace_terms.specs.declared.term.Term.{Term}
use Rattle.trace_terms.specs.View.{view}
use Rattle.trace_terms.specs.Data.{Data, int, atom, pid, tuple, list, binary, Members, no_members, member}
use Rattle.ext_format.specs.declared.fault.DecodeFault.{DecodeFault}
use Rattle.ext_format.specs.declared.fault.DecodeFault.TheVariants.{Truncated, BadVersion, BadTag, BadText, TooBig, Improper, TooDeep, AtomTooLong, NoMemory}
use Rattle.ext_format.specs.declared.tag.Tag.{Tag}
use Rattle.ext_format.specs.declared.tag.Tag.TheVariants.{SmallIntegerExt, IntegerExt, SmallBigExt, SmallAtomUtf8Ext, AtomUtf8Ext, SmallAtomExt, AtomExt, NewPidExt, PidExt, SmallTupleExt, LargeTupleExt, NilExt, StringExt, ListExt, BinaryExt}
use Rattle.ext_format.specs.Tags.{tag_of}
use Rattle.ext_format.specs.Members.{integers}
use Rattle.ext_format.specs.Spelling.{little_endian}

-- one step of reading after the other; the first fault ends it
infixl 10 ◌>>=◌
abbrev pub ◌>>=◌ : {A B : Type 0} → Result A DecodeFault → (A → Result B DecodeFault) → Result B DecodeFault
(Ok x) >>= f = f x
(Err e) >>= f = Err e

-- A function that failed so failed as reading does, unless memory ran out.
abbrev pub Fails : {Y : Type 0} → DecodeFault → Result Y DecodeFault → Type 0
Fails NoMemory read = Unit {0}
Fails fault read = read ≡ Err fault

-- What a function returned, seen by view, is what reading gives, unless memory ran out.
abbrev pub Gives : {X Y : Type 0} → (X → Y) → Result X DecodeFault → Result Y DecodeFault → Type 0
Gives view (Ok x) read = read ≡ Ok (view x)
Gives view (Err e) read = Fails e read

-- What is read from a text: a value, and the bytes after it.
abbrev pub Read : Type 0 → Type 0
Read X = Result (X × List ℕ) DecodeFault

-- ---- fields

-- a number of the width w
abbrev pub number_at : Width → List ℕ → Read ℕ
number_at w bytes = if nat_lt (length bytes) (byte_len w) then Err Truncated else Ok (from_be_bytes w (take (byte_len w) bytes), drop (byte_len w) bytes)

-- so many bytes
abbrev pub bytes_at : ℕ → List ℕ → Read (List ℕ)
bytes_at n bytes = if nat_lt (length bytes) n then Err Truncated else Ok (take n bytes, drop n bytes)

-- a length, and that many bytes
unfoldable pub sized_at : Width → List ℕ → Read (List ℕ)
sized_at w bytes = do
  n ← number_at w bytes
  bytes_at n.0 n.1

-- a tag byte
unfoldable pub tag_at : List ℕ → Read Tag
tag_at bytes = do
  b ← number_at w8 bytes
  tag ← ok_or (tag_of b.0) BadTag
  Ok (tag, b.1)

-- ---- integers

-- The number of this sign and size, in the 64 bits of an integer.
unfoldable pub signed : ℕ → ℕ → Result ℤ DecodeFault
signed zero size = if nat_lt size (2 ^ 63) then Ok (pos size) else Err TooBig
signed (suc sign) size = if nat_le size (2 ^ 63) then Ok (neg_ℤ (pos size)) else Err TooBig

-- the fields after SMALL_BIG_EXT
unfoldable pub big_at : List ℕ → Read ℤ
big_at bytes = do
  n ← number_at w8 bytes
  sign ← number_at w8 n.1
  digits ← bytes_at n.0 sign.1
  z ← signed sign.0 (little_endian digits.0)
  Ok (z, digits.1)

-- ---- atoms

-- the text itself, if it is short enough
abbrev pub short_text : List ℕ → Result (List ℕ) DecodeFault
short_text text = if nat_lt 255 (length (chars text)) then Err AtomTooLong else Ok text

-- the text that bytes of UTF-8 are
unfoldable pub utf8_text : List ℕ → Result (List ℕ) DecodeFault
utf8_text bytes = if is_utf8 bytes then short_text bytes else Err BadText

-- the text that bytes of Latin-1 spell: each byte is the code of a character
abbrev pub latin1_text : List ℕ → Result (List ℕ) DecodeFault
latin1_text bytes = short_text (encode_utf8_all bytes)

-- a length of the width w, and the bytes of a text
abbrev pub text_in : (List ℕ → Result (List ℕ) DecodeFault) → Width → List ℕ → Read (List ℕ)
text_in text_of w bytes = do
  sized ← sized_at w bytes
  text ← text_of sized.0
  Ok (text, sized.1)

-- the fields after an atom's tag
unfoldable pub text_at : Tag → List ℕ → Read (List ℕ)
text_at SmallAtomUtf8Ext bytes = text_in utf8_text w8 bytes
text_at AtomUtf8Ext bytes = text_in utf8_text w16 bytes
text_at SmallAtomExt bytes = text_in latin1_text w8 bytes
text_at AtomExt bytes = text_in latin1_text w16 bytes
text_at _ bytes = Err BadTag

-- the bytes of an atom's text after its tag, whatever they spell
unfoldable pub spelt_at : Tag → List ℕ → Read (List ℕ)
spelt_at SmallAtomUtf8Ext bytes = sized_at w8 bytes
spelt_at AtomUtf8Ext bytes = sized_at w16 bytes
spelt_at SmallAtomExt bytes = sized_at w8 bytes
spelt_at AtomExt bytes = sized_at w16 bytes
spelt_at _ bytes = Err BadTag

-- a pid's node, an atom with its tag
unfoldable pub node_at : List ℕ → Read (List ℕ)
node_at bytes = do
  tag ← tag_at bytes
  text_at tag.0 tag.1

-- the fields after a pid's tag; creation has the width w
unfoldable pub pid_at : Width → List ℕ → Read Pid
pid_at w bytes = do
  node ← node_at bytes
  id ← number_at w32 node.1
  serial ← number_at w32 id.1
  creation ← number_at w serial.1
  Ok (record { node = node.0; id = id.0; serial = serial.0; creation = creation.0 }, creation.1)

-- ---- terms

-- so many terms, each read by read
unfoldable pub members_at : (List ℕ → Read Data) → ℕ → List ℕ → Read Members
members_at read zero bytes = Ok (no_members, bytes)
members_at read (suc n) bytes = do
  first ← read bytes
  others ← members_at read n first.1
  Ok (member first.0 others.0, others.1)

-- the fields after a tuple's tag; the arity has the width w
unfoldable pub tuple_at : Width → (List ℕ → Read Data) → List ℕ → Read Data
tuple_at w read bytes = do
  n ← number_at w bytes
  ts ← members_at read n.0 n.1
  Ok (tuple ts.0, ts.1)

-- the tail of a proper list
abbrev pub tail_at : List ℕ → Read Unit
tail_at bytes = do
  b ← number_at w8 bytes
  if b.0 == 106 then Ok (tt, b.1) else Err Improper

-- the fields after LIST_EXT
unfoldable pub list_at : (List ℕ → Read Data) → List ℕ → Read Data
list_at read bytes = do
  n ← number_at w32 bytes
  ts ← members_at read n.0 n.1
  tail ← tail_at ts.1
  Ok (list ts.0, tail.1)

-- the fields after SMALL_INTEGER_EXT
abbrev pub small_integer_at : List ℕ → Read Data
small_integer_at bytes = do
  n ← number_at w8 bytes
  Ok (int (pos n.0), n.1)

-- the fields after INTEGER_EXT
abbrev pub integer_at : List ℕ → Read Data
integer_at bytes = do
  n ← number_at w32 bytes
  Ok (int (cast_signed w32 n.0), n.1)

-- the fields after STRING_EXT
abbrev pub string_at : List ℕ → Read Data
string_at bytes = do
  sized ← sized_at w16 bytes
  Ok (list (integers sized.0), sized.1)

-- the fields after BINARY_EXT
abbrev pub binary_at : List ℕ → Read Data
binary_at bytes = do
  sized ← sized_at w32 bytes
  Ok (binary sized.0, sized.1)

-- The fields after a tag. The members of a tuple or a list are read by inner, or may not be there at all.
unfoldable pub fields_at : Result (List ℕ → Read Data) DecodeFault → Tag → List ℕ → Read Data
fields_at inner SmallIntegerExt bytes = small_integer_at bytes
fields_at inner IntegerExt bytes = integer_at bytes
fields_at inner SmallBigExt bytes = do
  z ← big_at bytes
  Ok (int z.0, z.1)
fields_at inner NewPidExt bytes = do
  p ← pid_at w32 bytes
  Ok (pid p.0, p.1)
fields_at inner PidExt bytes = do
  p ← pid_at w8 bytes
  Ok (pid p.0, p.1)
fields_at inner SmallTupleExt bytes = do
  read ← inner
  tuple_at w8 read bytes
fields_at inner LargeTupleExt bytes = do
  read ← inner
  tuple_at w32 read bytes
fields_at inner NilExt bytes = do
  read ← inner
  Ok (list no_members, bytes)
fields_at inner StringExt bytes = do
  read ← inner
  string_at bytes
fields_at inner ListExt bytes = do
  read ← inner
  list_at read bytes
fields_at inner BinaryExt bytes = binary_at bytes
fields_at inner tag bytes = do
  text ← text_at tag bytes
  Ok (atom text.0, text.1)

-- a term whose members, if it has any, are read by inner
abbrev pub tagged_at : Result (List ℕ → Read Data) DecodeFault → List ℕ → Read Data
tagged_at inner bytes = do
  tag ← tag_at bytes
  fields_at inner tag.0 tag.1

-- what reads the members of a tuple or a list that stands where room of them may be nested
unfoldable pub inner_of : ℕ → Result (List ℕ → Read Data) DecodeFault
inner_of zero = Err TooDeep
inner_of (suc room) = Ok (tagged_at (inner_of room))

-- a term with at most room tuples and lists in one another
abbrev pub term_at : ℕ → List ℕ → Read Data
term_at room = tagged_at (inner_of room)

-- a term after the version, and how many bytes it takes
unfoldable pub whole_at : List ℕ → Result (Data × ℕ) DecodeFault
whole_at bytes = do
  version ← number_at w8 bytes
  t ← (if version.0 == 131 then term_at 64 version.1 else Err BadVersion)
  Ok (t.0, length bytes - length t.1)

-- What decoding returned is what reading gives, unless memory ran out.
abbrev pub Decodes : Result (Term × ℕ) DecodeFault → Result (Data × ℕ) DecodeFault → Type 0
Decodes result read = Gives (λ x. (view x.0, x.1)) result read
