use Rattle.std.proofs.Common.{ℕ}
use Rattle.script_lines.specs.Spellings.{Three, texts}
use Rattle.script_lines.specs.Table.{IsTracee, IsLong, IsFlags}
use Rattle.script_lines.proofs.Words.{first_not_others}
use Rattle.script_lines.proofs.desk_line.tracee.Goals as goal

pub returns-in_err-capacity : goal.returns-in_err-capacity
returns-in_err-capacity c = rw c.from_residual-in_err-capacity.ensures (λ x h. first_not_others IsTracee (λ ws (_ : ℕ). Three IsLong IsLong IsFlags ws h.1 h.2 h.3) (texts c.args.words.now) _ _ c.in_ok-number.ensures (λ _ s. c.in_err-capacity.ensures (h.1, h.2, h.3) s) h.0 0 h.4)
