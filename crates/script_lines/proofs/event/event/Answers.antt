use Rattle.trace_message.specs.Events.{event_view}
use Rattle.script_lines.specs.Spellings.{texts}
use Rattle.script_lines.specs.Table.{IsEvent}
use Rattle.script_lines.proofs.Keywords.{no_keyword}
use Rattle.script_lines.proofs.Words.{behind_as, spelled_weaker}
use Rattle.script_lines.proofs.event.event.Goals as goal

pub returns-in_default : goal.returns-in_default
returns-in_default c = no_keyword IsEvent (texts c.args.words.now) (λ k others e. c.in_default.ensures (k, others) e)

pub returns : goal.returns
returns c = spelled_weaker _ _ _ _ c.event_of.result (λ o. behind_as event_view IsEvent (texts c.args.words.now) (texts c.in-Some.others.now) c.in-Some.keyword o c.in-Some.ensures) c.event_of.ensures
