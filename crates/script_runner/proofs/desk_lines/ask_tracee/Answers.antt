use Rattle.std.proofs.Common.{ap, false, refl}
use Rattle.intake.specs.Tracees.{counts_of}
use Rattle.trace_port.specs.Effects.{effect, no_effect}
use Rattle.tracees.specs.Hands.{items_moved, has_gone}
use Rattle.script_runner.specs.declared.answer.Answer.TheVariants as answers
use Rattle.script_lines.specs.declared.desk_line.TraceeLine.TheVariants as tracee_lines
use Rattle.script_runner.specs.Answers.{emit_answer, hand_answer, flush_for_answer}
use Rattle.script_runner.specs.Sides.{desk_seen, seat_seen}
use Rattle.script_runner.specs.DeskLines.{hands_over, flushes_for, counts}
use Rattle.script_runner.proofs.Asking.{answered_for, emitted}
use Rattle.script_runner.proofs.desk_lines.ask_tracee.Goals as goal

pub returns-in-Emit : goal.returns-in-Emit
returns-in-Emit g c =
    record {
      step = let told = g.P.TracePort.told in
          let desk = desk_seen g.P.TracePort c.args.desk.now in
          let was = seat_seen c.args.traced.now in
          let is = seat_seen c.emit.new.self in
          record {
            name = refl;
            same = refl;
            first = refl;
            did = answered_for told desk desk c.args.moment was is c.args.line.now (tracee_lines.Emit c.in-Emit.event) c.of_emit.result (emit_answer c.emit.result) no_effect c.in-Emit.is c.of_emit.ensures
                (emitted told desk c.args.moment was is c.in-Emit.event c.emit.result c.emit.ensures.desk c.emit.ensures.account c.emit.ensures.emits);
          };
    }

pub returns-in-Hand : goal.returns-in-Hand
returns-in-Hand g c =
    record {
      step = record {
        name = c.hand_over.ensures.hands.name;
        same = c.hand_over.ensures.hands.same;
        first = c.hand_over.ensures.hands.first;
        did = answered_for g.P.TracePort.told (desk_seen g.P.TracePort c.args.desk.now) (desk_seen g.P.TracePort c.hand_over.new.self) c.args.moment (seat_seen c.args.traced.now) (seat_seen c.hand_over.new.traced) c.args.line.now (tracee_lines.Hand c.in-Hand.limit)
            c.of_hand_over.result (hand_answer c.hand_over.result) (effect (items_moved c.hand_over.result) false) c.in-Hand.is c.of_hand_over.ensures (hands_over c.hand_over.result c.hand_over.ensures.hands.did);
      };
    }

pub returns-in-FlushFor : goal.returns-in-FlushFor
returns-in-FlushFor g c =
    record {
      step = record {
        name = c.flush_for.ensures.flushes.name;
        same = c.flush_for.ensures.flushes.same;
        first = c.flush_for.ensures.flushes.first;
        did = answered_for g.P.TracePort.told (desk_seen g.P.TracePort c.args.desk.now) (desk_seen g.P.TracePort c.flush_for.new.self) c.args.moment (seat_seen c.args.traced.now) (seat_seen c.flush_for.new.traced) c.args.line.now tracee_lines.FlushFor
            c.of_flush_for.result (flush_for_answer c.flush_for.result) (effect (items_moved c.flush_for.result) (has_gone c.flush_for.result)) c.in-FlushFor.is c.of_flush_for.ensures (flushes_for c.flush_for.result c.flush_for.ensures.flushes.did);
      };
    }

pub returns-in-Counts : goal.returns-in-Counts
returns-in-Counts g c =
    record {
      step = let desk = desk_seen g.P.TracePort c.args.desk.now in
          let seat = seat_seen c.args.traced.now in
          record {
            name = refl;
            same = refl;
            first = refl;
            did = answered_for g.P.TracePort.told desk desk c.args.moment seat seat c.args.line.now tracee_lines.Counts (answers.Counts c.counts.result) (answers.Counts (counts_of c.args.traced.now.tracee)) no_effect c.in-Counts.is (ap answers.Counts c.counts.ensures) counts;
          };
    }
