use Rattle.commands.specs.Viewing.{ends_failed, ends_seen}
use Rattle.commands.proofs.Viewed.{none_before}
use Rattle.commands.proofs.viewing.see_ends.Goals as goal

pub returns-clause-viewed : goal.returns-clause-viewed
returns-clause-viewed g c = none_before _ _ _ c.new.result.taken.entries ends_seen ends_failed _ _ _ c.look_at.result c.new.ensures.taken c.look_at.ensures.viewed
