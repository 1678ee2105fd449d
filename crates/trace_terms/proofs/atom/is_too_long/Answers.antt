use Rattle.std.proofs.Common.{arith}
use Rattle.trace_terms.proofs.Texts.{chars_le_bytes}
use Rattle.trace_terms.proofs.atom.is_too_long.Goals as goal

pub returns-then-text-le-MAX_CHARS : goal.returns-then-text-le-MAX_CHARS
returns-then-text-le-MAX_CHARS c = let few = chars_le_bytes c.args.text.now c.utf8.text in (λ never. absurd cc, λ many. absurd (omega arith))
