-- How many bytes a number has, where a tag chooses.
use Rattle.std.specs.Int.{Width, w8, w32}
use Rattle.ext_format.specs.declared.fields.Bytes.{Bytes}
use Rattle.ext_format.specs.declared.fields.Bytes.TheVariants.{One, Four}

-- the width of a number of so many bytes
abbrev pub width_of : Bytes → Width
width_of One = w8
width_of Four = w32
