use Rattle.std.proofs.Common.{refl}
use Rattle.script_lines.specs.Spellings.{texts}
use Rattle.trace_message.specs.Events.{event_view}
use Rattle.trace_message.specs.declared.event.Event.{Event}
use Rattle.script_lines.specs.Keywords.{Behind}
use Rattle.script_lines.specs.Table.{IsTracee, IsEvent}
use Rattle.script_lines.proofs.Words.{first_not_others, unspelled}
use Rattle.script_lines.proofs.desk_line.emit.Goals as goal

pub returns-in-Ok : goal.returns-in-Ok
returns-in-Ok c = (
  c.in-Some-tracee_number.number,
  c.in-Ok.event,
  record {
    word = c.in-Some.number.now;
    others = texts c.in-Some.others.now;
    are = c.in-Some.ensures;
    spells = c.in-Some-tracee_number.ensures;
    spells_others = c.in-Ok.ensures;
  },
  refl,
)

pub returns-in-Err-Unspelled : goal.returns-in-Err-Unspelled
returns-in-Err-Unspelled c x h =
    first_not_others IsTracee (λ ws (e : Event). Behind IsEvent ws (event_view e)) (texts c.args.words.now) (texts c.in-Some.others.now) _ c.in-Some.ensures
    (λ event s. unspelled (Behind IsEvent (texts c.in-Some.others.now)) _ c.in-Err-Unspelled.field-0-is c.in-Err-Unspelled.ensures (event_view event) s) h.0 h.1 h.2
