use Rattle.std.proofs.Common.{arith}
use Rattle.script_lines.proofs.Numbers.{one_byte, hex_of_two}
use Rattle.script_lines.proofs.spelling.byte.Goals as goal

pub returns-in-len2 : goal.returns-in-len2
returns-in-len2 c = one_byte c.args.word.now c.pair.result (omega arith) (omega arith) c.pair.ensures

pub returns-in_default-2 : goal.returns-in_default-2
returns-in_default-2 c b h = omega (arith, hex_of_two c.args.word.now b h)
