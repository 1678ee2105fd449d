use Rattle.std.proofs.Common.{arith}
use Rattle.ext_format.proofs.Texts.{latin1_text-long}
use Rattle.ext_format.proofs.atoms.latin1_atom.Goals as goal

pub returns-then-bytes-gt-MAX_CHARS : goal.returns-then-bytes-gt-MAX_CHARS
returns-then-bytes-gt-MAX_CHARS c = latin1_text-long c.args.bytes.now (λ i. omega (arith, c.type_inv.bytes i)) (omega arith)
