use Rattle.std.proofs.Common.{Ok, Err, refl, subst, sym}
use Rattle.faults.specs.Faults.{read_fault, IsFaultOfSeveral}
use Rattle.script_runner.specs.Faults.{IsFaultOfDevice}
use Rattle.commands.proofs.Followed.{told_well}
use Rattle.commands.proofs.Naming.{told_moved}
use Rattle.commands.proofs.following.serve_following.Goals as goal

pub returns-in-Ok : goal.returns-in-Ok
returns-in-Ok g c =
    let new = c.new-follower.ensures in (
      c.style.result,
      c.style.ensures,
      record {
        first = c.new-follower.result;
        is_new = record { same_style = new.style; at_first = new.point; place = new.place };
        done = Ok tt;
        mid = g.W.Write.contents c.follow-done.new.watched.writer.now;
        left = c.follow-done.new.files.store;
        followed = c.in-Ok.ensures.followed;
        out = c.flush-flushed.ensures.bytes;
        told = told_well c.args.files.now.place c.follow-done.new.files.store c.written_out.result c.written_out.ensures.err;
        behind = refl;
      },
    )

pub returns-in-Err : goal.returns-in-Err
returns-in-Err g c =
    let new = c.new-follower.ensures in (
      c.style.result,
      c.style.ensures,
      record {
        first = c.new-follower.result;
        is_new = record { same_style = new.style; at_first = new.point; place = new.place };
        done = Err c.in-Err.fault;
        mid = g.W.Write.contents c.follow-done.new.watched.writer.now;
        left = c.follow-done.new.files.store;
        followed = c.in-Err.ensures.followed;
        out = c.flush-flushed.ensures.bytes;
        told = told_moved c.args.files.now.place c.follow-done.new.files.place c.explained.new.self.store c.fault_of_reading.result (read_fault c.in-Err.fault) c.explained.result c.follow-done.ensures.place c.fault_of_reading.ensures c.explained.ensures.named;
        behind = record {
          only_reads = c.explained.ensures.only_reads;
          failures = c.explained.ensures.failures;
          of_device = λ of. c.explained.ensures.of_device (subst IsFaultOfDevice (sym c.fault_of_reading.ensures) of);
          alone = λ not. c.explained.ensures.alone (λ of. not (subst IsFaultOfSeveral c.fault_of_reading.ensures of));
          at_most = c.explained.ensures.at_most;
        };
      },
    )
