use Rattle.std.proofs.Common.{◌∙◌}
use Rattle.simulator.proofs.sim.run_whole.Goals as goal

pub returns : goal.returns
returns g c =
    record {
      run = record {
        name = c.finish.ensures.over.name ∙ c.run_line-left.ensures.runs.name;
        of_desk = c.run_line-left.ensures.runs.of_desk;
        reader = c.run_line-left.ensures.runs.reader;
        did = record {
          mid = c.run_line-left.new.store;
          between = g.W.Write.contents c.run_line-left.new.answers.writer.now;
          left = c.run_line-left.result;
          runs = c.run_line-left.ensures.runs.did;
          over = c.finish.ensures.over.did;
        };
      };
    }
