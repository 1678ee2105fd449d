use Rattle.std.proofs.Common.{◌<◌, nat_eq, length, map, set, Some, w64, SFits, rules, refl, sym, subst, ap, ◌∙◌}
use Rattle.std.proofs.lemmas.Int.{to_z-of_z}
use Rattle.std.proofs.lemmas.List.{map-set}
use Rattle.trace_message.specs.declared.event.Stamp.{Stamp}
use Rattle.trace_port.specs.Effects.{no_effect}
use Rattle.script_runner.specs.declared.answer.Answer.TheVariants as answers
use Rattle.script_lines.specs.declared.desk_line.DeskLine.{DeskLine}
use Rattle.script_lines.specs.declared.desk_line.DeskLine.TheVariants as desk_lines
use Rattle.script_runner.specs.Sides.{DeskSide, desk_seen, seat_seen, side_seen}
use Rattle.script_runner.specs.DeskLines.{IsAskedAtDesk, stamps, times, asks_for, is_missing}
use Rattle.script_runner.proofs.Asking.{answered_there, as_they_stand}
use Rattle.script_runner.proofs.Placing.{place_within, seen_at, place_seen}
use Rattle.script_runner.proofs.desk_lines.ask_desk.Goals as goal

pub returns-in-Stamp : goal.returns-in-Stamp
returns-in-Stamp g c =
    record {
      step = let told = g.P.TracePort.told in
          let old = side_seen g.P.TracePort c.args.desk.now c.args.attached.now in
          let now = c.set_moment.new.self in
          let line = desk_lines.Stamp c.in-Stamp.mega c.in-Stamp.sec c.in-Stamp.micro in
          record {
            name = refl;
            same = refl;
            first = refl;
            did = answered_there told old (side_seen g.P.TracePort c.args.desk.now now) c.args.line.now line answers.Done answers.Done no_effect c.in-Stamp.is refl
                (as_they_stand told old old.desk _ now.moment old.seats (map seat_seen now.traced.items) line answers.Done no_effect c.set_moment.ensures.moment (ap (λ t. map seat_seen t.items) c.set_moment.ensures.traced) stamps);
          };
    }

pub returns-in-Mono : goal.returns-in-Mono
returns-in-Mono g c =
    record {
      step = let told = g.P.TracePort.told in
          let old = side_seen g.P.TracePort c.args.desk.now c.args.attached.now in
          let now = c.set_mono.new.self in
          let line = desk_lines.Mono c.in-Mono.mono in
          record {
            name = refl;
            same = refl;
            first = refl;
            did = answered_there told old (side_seen g.P.TracePort c.args.desk.now now) c.args.line.now line answers.Done answers.Done no_effect c.in-Mono.is refl
                (let fits : SFits w64 c.in-Mono.mono = search rules in
                as_they_stand told old old.desk _ now.moment old.seats (map seat_seen now.traced.items) line answers.Done no_effect
                (c.set_mono.ensures.moment ∙ ap (λ z. let moment : Stamp = record old.moment { mono = z } in moment) (to_z-of_z w64 c.in-Mono.mono fits)) (ap (λ t. map seat_seen t.items) c.set_mono.ensures.traced) times);
          };
    }

pub returns-in-Tracee : goal.returns-in-Tracee
returns-in-Tracee g c =
    record {
      step = let old = side_seen g.P.TracePort c.args.desk.now c.args.attached.now in
          let new = side_seen g.P.TracePort c.attach.new.desk c.attach.new.attached in
          record {
            name = c.attach.ensures.step.name;
            same = c.attach.ensures.step.same;
            first = c.attach.ensures.step.first;
            did = (no_effect, subst (λ (l : DeskLine). IsAskedAtDesk g.P.TracePort.told old new l c.attach.result no_effect) (sym c.in-Tracee.is) c.attach.ensures.step.did);
          };
    }

pub returns-in_default : goal.returns-in_default
returns-in_default g c =
    record {
      step = let here = side_seen g.P.TracePort c.args.desk.now c.args.attached.now in
          record {
            name = refl;
            same = refl;
            first = refl;
            did = answered_there g.P.TracePort.told here here c.args.line.now (desk_lines.OfTracee c.in-OfTracee.number c.in-OfTracee.line) answers.OutOfOrder answers.OutOfOrder no_effect c.in-OfTracee.is refl
                (is_missing (place_seen c.args.attached.now.traced.items c.in-OfTracee.number ∙ sym c.place.ensures ∙ c.in_default.is));
          };
    }

pub returns-in-Some : goal.returns-in-Some
returns-in-Some g c =
    record {
      step = let told = g.P.TracePort.told in
          let old = side_seen g.P.TracePort c.args.desk.now c.args.attached.now in
          let items = c.args.attached.now.traced.items in
          let n = c.in-OfTracee.number in
          let place = c.in-Some.place in
          let was = c.index_mut.result.now in
          let is = c.ask_tracee.new.traced in
          let step = c.ask_tracee.ensures.step.did in
          let line = desk_lines.OfTracee n c.in-OfTracee.line in
          let new : DeskSide g.row.P.Denot = record { desk = desk_seen g.P.TracePort c.ask_tracee.new.desk; moment = old.moment; seats = map seat_seen (set items place is) } in
          let within : place < length items = place_within (λ traced. nat_eq traced.tracee.number n) items place (sym c.place.ensures ∙ c.in-Some.is) in
          record {
            name = c.ask_tracee.ensures.step.name;
            same = c.ask_tracee.ensures.step.same;
            first = c.ask_tracee.ensures.step.first;
            did = (
              step.0,
              subst (λ (l : DeskLine). IsAskedAtDesk told old new l c.ask_tracee.result step.0) (sym c.in-OfTracee.is)
                  (as_they_stand told old new.desk old.moment old.moment (set old.seats place (seat_seen is)) new.seats line c.ask_tracee.result step.0 refl (map-set seat_seen items place is)
                  (asks_for (place_seen items n ∙ sym c.place.ensures ∙ c.in-Some.is) (seen_at seat_seen items place was within ∙ ap (λ t. Some (seat_seen t)) (sym c.index_mut.ensures.value)) step.1)),
            );
          };
    }
