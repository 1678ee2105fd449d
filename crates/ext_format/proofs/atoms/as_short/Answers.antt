use Rattle.std.proofs.Common.{arith}
use Rattle.ext_format.proofs.Texts.{utf8_text-ascii, latin1_text-ascii}
use Rattle.ext_format.proofs.atoms.as_short.Goals as goal

pub returns-clause-utf8 : goal.returns-clause-utf8
returns-clause-utf8 c = λ ascii. utf8_text-ascii c.args.text.now ascii (omega arith)

pub returns-clause-latin1 : goal.returns-clause-latin1
returns-clause-latin1 c = λ ascii. latin1_text-ascii c.args.text.now ascii (omega arith)
