use Rattle.std.proofs.Common.{rules, ◌≡◌, [], true, refl, sym, subst, ap, ◌∙◌}
use Rattle.std.proofs.lemmas.Result.{err_from_is_err_and}
use Rattle.std.specs.Io.KnownBytes.{Appends}
use Rattle.trace_client.specs.Output.{AppendsPrefix}
use Rattle.tracees.specs.Books.{plain_totals}
use Rattle.trace_port.specs.PortCalls.{Finishes}
use Rattle.script_runner.specs.Answers.{opened_answer}
use Rattle.script_runner.specs.Texts.{line_of}
use Rattle.script_runner.specs.Sides.{in_desk, desk_seen}
use Rattle.script_lines.specs.Reading.{progress}
use Rattle.script_runner.specs.Read.{first_lines}
use Rattle.script_runner.specs.Held.{Ran, IsLetGo, IsAtDesk}
use Rattle.script_runner.proofs.Written.{new_desk}
use Rattle.script_runner.proofs.Through.{not_greeted, ran_behind, ran_to_end, ran_from_new}
use Rattle.script_runner.proofs.record.record.Goals as goal

pub returns-in_err-tell : goal.returns-in_err-tell
returns-in_err-tell g c =
    record {
      run = let told = g.P.TracePort.told in
          let p = c.args.port.now in
          let back : c.port-1.given.0 ≡ c.drop-desk.new.self.0 = search rules in
          let finished = subst (λ q. Finishes (told p) (told q)) (sym back) (subst (λ q. Finishes (told q) (told c.drop-desk.new.self.0)) c.new-desk.ensures.port c.drop-desk.ensures.finishes) in
          let e = err_from_is_err_and c.from_residual.result c.from_residual.ensures.1 in
          let at = progress 0 (g.R.Read.remaining c.args.reader.now) in
          let contents = g.W.Write.contents in
          let mid : c.writer-1.given.0 ≡ c.tell.new.self.writer.now = search rules in
          let answer = c.opened-opened.ensures ∙ ap (opened_answer c.args.origin) c.status.ensures.accepted in
          let cut = subst (λ w. AppendsPrefix (contents w) (contents c.tell.new.self.writer.now) (line_of (opened_answer c.args.origin (told p).total))) c.at_once.ensures.now
          (subst (λ a. AppendsPrefix (contents c.at_once.result.writer.now) (contents c.tell.new.self.writer.now) (line_of a)) answer c.in_err-tell.ensures.cut) in
          record {
            same = search rules;
            did = rw (e.1, e.2, c.in_err-tell.ensures.fault, mid)
                (0, not_greeted told (in_desk p) (λ end. IsLetGo told end c.port-1.given.0) (line_of (opened_answer c.args.origin (told p).total)) _ _ true 0 at at finished refl cut);
          };
    }

pub returns : goal.returns
returns g c =
    record {
      run = let told = g.P.TracePort.told in
          let p = c.args.port.now in
          let contents = g.W.Write.contents in
          let back : c.port-2-1.given.0 ≡ c.drop-desk-2.new.self.0 = search rules in
          let end = c.run_record.new.desk in
          let first = desk_seen g.P.TracePort c.new-desk.result in
          let made = c.new-desk.ensures in
          let begun = new_desk p first made.number made.port (ap plain_totals made.book ∙ c.new.ensures.totals) (ap (λ b. b.attached) made.book ∙ c.new.ensures.attached) in
          let finished = subst (λ q. Finishes (told end.port.now) (told q)) (sym back) c.drop-desk-2.ensures.finishes in
          let answer = c.opened-opened.ensures ∙ ap (opened_answer c.args.origin) c.status.ensures.accepted in
          let greets = subst (λ w. Appends (contents w) (contents c.tell.new.self.writer.now) (line_of (opened_answer c.args.origin (told p).total))) c.at_once.ensures.now
          (subst (λ a. Appends (contents c.at_once.result.writer.now) (contents c.tell.new.self.writer.now) (line_of a)) answer c.in_ok-tell.ensures.text) in
          let mid : c.writer-1.given.0 ≡ c.tell.new.self.writer.now = search rules in
          let q = c.port-2-1.given.0 in
          let now = contents c.run_record.new.writer in
          let result = c.run_record.result in
          record {
            same = search rules;
            did = (
              c.run_record.ensures.run.did.0,
              ran_behind told (in_desk p) 0 _ result (λ held. IsLetGo told held q) (contents c.args.writer.now) (contents c.tell.new.self.writer.now) now (line_of (opened_answer c.args.origin (told p).total)) greets
                  (subst (λ w. Ran told (in_desk p) 0 (first_lines true c.run_record.ensures.run.did.0 (g.R.Read.remaining c.args.reader.now) (g.R.Read.remaining c.run_record.new.reader)) result (λ held. IsLetGo told held q) [] (λ text. Appends (contents w) now text)) mid
                  (ran_to_end told (in_desk p) 0 _ result (desk_seen g.P.TracePort end) q [] _ finished
                  (ran_from_new told p first 0 _ result (IsAtDesk (desk_seen g.P.TracePort end)) [] _ begun c.run_record.ensures.run.did.1))),
            );
          };
    }
