use Rattle.std.proofs.KnownBytes.{Keeps-refl}
use Rattle.commands.specs.Serving.{followed, not_followed}
use Rattle.commands.proofs.serving.follow_files.Goals as goal

pub returns-in-Err : goal.returns-in-Err
returns-in-Err g c = not_followed _ c.in-Err.ensures.refused (Keeps-refl _)

pub returns : goal.returns
returns g c = followed c.in-Ok.found.0 c.shown_of-files.result.0 c.shown_of-files.result.1 c.show-done.result.1 c.in-Ok.ensures.made c.shown_of-files.ensures c.show-done.ensures
