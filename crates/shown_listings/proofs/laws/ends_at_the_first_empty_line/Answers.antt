use Rattle.shown_listings.proofs.FilledLines.{filled-whole, filled-ends}
use Rattle.shown_listings.proofs.laws.ends_at_the_first_empty_line.Goals as goal

pub returns-clause-none : goal.returns-clause-none
returns-clause-none c = filled-whole

pub returns-clause-first : goal.returns-clause-first
returns-clause-first c = filled-ends
