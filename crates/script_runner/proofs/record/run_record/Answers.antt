use Rattle.std.proofs.Common.{rules, ◌≡◌}
use Rattle.script_runner.proofs.record.run_record.Goals as goal

pub returns : goal.returns
returns g c =
    record {
      run = let back : c.writer-1.given.0 ≡ c.run_desk.new.answers.writer.now = search rules in
          let reads : c.reader-1.given.0 ≡ c.run_desk.new.script.reader.now = search rules in
          let made = c.new-script.ensures in
          record {
            name = c.run_desk.ensures.run.did.name;
            same = c.run_desk.ensures.run.did.same;
            first = c.run_desk.ensures.run.did.first;
            did = rw (back, reads) (c.run_desk.new.script.number, rw (made.of_desk, made.number, made.now, c.at_once-answers.ensures.now) at c.run_desk.ensures.run.did.did);
          };
    }
