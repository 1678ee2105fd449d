use Rattle.std.proofs.Common.{refl}
use Rattle.commands.proofs.salvaging.output_form.Goals as goal

pub returns-in-Lines : goal.returns-in-Lines
returns-in-Lines c = rw c.in-Lines.is (c.style.result, c.style.ensures, refl)
