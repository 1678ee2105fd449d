use Rattle.shown_listings.proofs.Ending.{fresh-last, fresh-nothing}
use Rattle.shown_listings.proofs.end_writer.is_fresh_after.Goals as goal

pub returns-in-Some : goal.returns-in-Some
returns-in-Some c = fresh-last c.args.is_fresh c.args.bytes.now _ c.in-Some.ensures.value

pub returns-in-None : goal.returns-in-None
returns-in-None c = fresh-nothing c.args.is_fresh c.args.bytes.now c.in-None.ensures.value
