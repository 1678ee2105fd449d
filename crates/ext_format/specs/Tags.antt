-- The tag bytes.
use Rattle.std.specs.Prelude.{ℕ, Option, Some, None, ◌==◌, if◌then◌else◌}
use Rattle.ext_format.specs.declared.tag.Tag.{Tag}
use Rattle.ext_format.specs.declared.tag.Tag.TheVariants.{SmallIntegerExt, IntegerExt, SmallBigExt, SmallAtomUtf8Ext, AtomUtf8Ext, SmallAtomExt, AtomExt, NewPidExt, PidExt, SmallTupleExt, LargeTupleExt, NilExt, StringExt, ListExt, BinaryExt}

-- the byte of each tag
abbrev pub byte_of : Tag → ℕ
byte_of SmallIntegerExt = 97
byte_of IntegerExt = 98
byte_of SmallBigExt = 110
byte_of SmallAtomUtf8Ext = 119
byte_of AtomUtf8Ext = 118
byte_of SmallAtomExt = 115
byte_of AtomExt = 100
byte_of NewPidExt = 88
byte_of PidExt = 103
byte_of SmallTupleExt = 104
byte_of LargeTupleExt = 105
byte_of NilExt = 106
byte_of StringExt = 107
byte_of ListExt = 108
byte_of BinaryExt = 109

-- the tag, if it is the byte's, or else another
abbrev pub or_else : ℕ → Tag → Option Tag → Option Tag
or_else b tag other = if b == byte_of tag then Some tag else other

-- the tag of a byte, if it has one
unfoldable pub tag_of : ℕ → Option Tag
tag_of b = or_else b SmallIntegerExt (or_else b IntegerExt (or_else b SmallBigExt (or_else b SmallAtomUtf8Ext (or_else b AtomUtf8Ext (or_else b SmallAtomExt (or_else b AtomExt (or_else b NewPidExt
    (or_else b PidExt (or_else b SmallTupleExt (or_else b LargeTupleExt (or_else b NilExt (or_else b StringExt (or_else b ListExt (or_else b BinaryExt None))))))))))))))
