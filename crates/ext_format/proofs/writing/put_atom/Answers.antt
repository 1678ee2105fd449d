use Rattle.std.proofs.Common.{arith}
use Rattle.ext_format.proofs.Texts.{short_text_bytes}
use Rattle.ext_format.proofs.writing.put_atom.Goals as goal

pub overflow_cast-len-else-len-lt256 : goal.overflow_cast-len-else-len-lt256
overflow_cast-len-else-len-lt256 c = let short = short_text_bytes c.args.text.now c.utf8.text c.requires in omega arith
