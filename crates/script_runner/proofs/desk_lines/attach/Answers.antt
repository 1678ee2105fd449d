use Rattle.std.proofs.Common.{[], ◌∷◌, ◌++◌, map, ◌∙◌, ap, refl}
use Rattle.std.proofs.lemmas.List.{map-append}
use Rattle.trace_port.specs.Effects.{no_effect}
use Rattle.intake.specs.declared.fault.TraceeFault.TheVariants.{NoMemory}
use Rattle.script_runner.specs.declared.answer.Answer.TheVariants.{Refused}
use Rattle.script_lines.specs.declared.desk_line.DeskLine.TheVariants.{Tracee}
use Rattle.script_runner.specs.declared.refusal.Refusal.TheVariants as refusals
use Rattle.script_runner.specs.Sides.{desk_seen, seat_seen, side_seen}
use Rattle.script_runner.specs.DeskLines.{not_attached, is_there}
use Rattle.script_runner.proofs.Asking.{as_they_stand, attached_there}
use Rattle.script_runner.proofs.Placing.{is_found, is_nowhere}
use Rattle.script_runner.proofs.desk_lines.attach.Goals as goal

pub returns-then-is_some-clause-step : goal.returns-then-is_some-clause-step
returns-then-is_some-clause-step g c =
    record {
      name = refl;
      same = refl;
      first = refl;
      did = is_there (is_found c.args.attached.now.traced.items c.args.number c.place.result c.is_some.result c.place.ensures c.is_some.ensures c.if-is_some.true);
    }

pub returns-in-Err-clause-step : goal.returns-in-Err-clause-step
returns-in-Err-clause-step g c =
    record {
      name = refl;
      same = refl;
      first = refl;
      did = not_attached (is_nowhere c.args.attached.now.traced.items c.args.number c.place.result c.is_some.result c.place.ensures c.is_some.ensures c.if-is_some.false) c.in-Err.ensures.due;
    }

pub returns-then-attached-eq4294967295-clause-step : goal.returns-then-attached-eq4294967295-clause-step
returns-then-attached-eq4294967295-clause-step g c =
    record {
      name = refl;
      same = refl;
      first = refl;
      did = not_attached (is_nowhere c.args.attached.now.traced.items c.args.number c.place.result c.is_some.result c.place.ensures c.is_some.ensures c.if-is_some.false) tt;
    }

pub returns-then-is_err-clause-step : goal.returns-then-is_err-clause-step
returns-then-is_err-clause-step g c =
    let old = side_seen g.P.TracePort c.args.desk.now c.args.attached.now in
    record {
      name = refl;
      same = refl;
      first = refl;
      did = as_they_stand g.P.TracePort.told old old.desk old.moment old.moment old.seats (map seat_seen c.reserve.new.self.items) (Tracee c.args.number c.args.capacity c.args.drop_limit c.args.flags) (Refused (refusals.Tracee NoMemory)) no_effect
          refl (ap (map seat_seen) c.reserve.ensures.items)
          (not_attached (is_nowhere c.args.attached.now.traced.items c.args.number c.place.result c.is_some.result c.place.ensures c.is_some.ensures c.if-is_some.false) tt);
    }

pub returns-clause-step : goal.returns-clause-step
returns-clause-step g c =
    let old = side_seen g.P.TracePort c.args.desk.now c.args.attached.now in
    let items = c.args.attached.now.traced.items in
    let made = c.attach.ensures in
    record {
      name = c.attach.ensures.name;
      same = ap g.P.TracePort.lender c.attach.ensures.port;
      first = c.attach.ensures.first;
      did = attached_there g.P.TracePort.told old (desk_seen g.P.TracePort c.attach.new.self) (map seat_seen c.push_reserved.new.self.items) (seat_seen c.attach.result) c.args.number c.args.capacity c.args.drop_limit c.args.flags c.in-Ok.tracee
          made.number made.port made.totals made.attached made.desk made.tracee made.account
          (ap (map seat_seen) (c.push_reserved.ensures.items ∙ ap (λ l. l ++ c.attach.result ∷ []) c.reserve.ensures.items) ∙ map-append seat_seen items (c.attach.result ∷ []))
          (is_nowhere items c.args.number c.place.result c.is_some.result c.place.ensures c.is_some.ensures c.if-is_some.false) (c.in-Ok.ensures.good_spec) c.in-Ok.ensures.made;
    }
