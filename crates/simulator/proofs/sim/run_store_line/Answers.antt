use Rattle.std.proofs.Common.{refl}
use Rattle.script_lines.specs.declared.line.Line.TheVariants as lines
use Rattle.script_runner.specs.Texts.{line_of}
use Rattle.script_runner.specs.declared.answer.Answer.TheVariants as answers
use Rattle.simulator.specs.Simulated.{crashes, tells_files, out_of_order}
use Rattle.simulator.proofs.Simulating.{not_of_store, does_so, lists_so}
use Rattle.simulator.proofs.sim.run_store_line.Goals as goal

pub returns-in-Store : goal.returns-in-Store
returns-in-Store g c =
    record {
      does = record {
        name = c.tell.ensures.name;
        did = rw c.in-Store.is (does_so c.tell.result (lines.Store _) c.args.store.now c.set_store.new.store _ _ (line_of c.set_store.result) c.set_store.ensures c.tell.ensures.text c.tell.ensures.cut c.tell.ensures.fault);
      };
    }

pub returns-in-Bytes : goal.returns-in-Bytes
returns-in-Bytes g c =
    record {
      does = record {
        name = c.tell-in-Bytes.ensures.name;
        did = rw c.in-Bytes.is (does_so c.tell-in-Bytes.result (lines.Bytes _ _) c.args.store.now c.set_bytes.new.store _ _ (line_of c.set_bytes.result) c.set_bytes.ensures c.tell-in-Bytes.ensures.text c.tell-in-Bytes.ensures.cut c.tell-in-Bytes.ensures.fault);
      };
    }

pub returns-in-Fuse : goal.returns-in-Fuse
returns-in-Fuse g c =
    record {
      does = record {
        name = c.tell-in-Fuse.ensures.name;
        did = rw c.in-Fuse.is (does_so c.tell-in-Fuse.result (lines.Fuse _) c.args.store.now c.set_fuse.new.store _ _ (line_of c.set_fuse.result) c.set_fuse.ensures c.tell-in-Fuse.ensures.text c.tell-in-Fuse.ensures.cut c.tell-in-Fuse.ensures.fault);
      };
    }

pub returns-in-FailOnce : goal.returns-in-FailOnce
returns-in-FailOnce g c =
    record {
      does = record {
        name = c.tell-in-FailOnce.ensures.name;
        did = rw c.in-FailOnce.is (does_so c.tell-in-FailOnce.result (lines.FailOnce _) c.args.store.now c.set_fail_once.new.store _ _ (line_of c.set_fail_once.result) c.set_fail_once.ensures c.tell-in-FailOnce.ensures.text c.tell-in-FailOnce.ensures.cut c.tell-in-FailOnce.ensures.fault);
      };
    }

pub returns-in-Crash : goal.returns-in-Crash
returns-in-Crash g c =
    record {
      does = record {
        name = c.tell-in-Crash.ensures.name;
        did = rw c.in-Crash.is (does_so c.tell-in-Crash.result (lines.Crash _) c.args.store.now c.crashed.new.store _ _ (line_of c.crashed.result) (crashes c.crashed.ensures) c.tell-in-Crash.ensures.text c.tell-in-Crash.ensures.cut c.tell-in-Crash.ensures.fault);
      };
    }

pub returns-in-Wipe : goal.returns-in-Wipe
returns-in-Wipe g c =
    record {
      does = record {
        name = c.tell-in-Wipe.ensures.name;
        did = rw c.in-Wipe.is (does_so c.tell-in-Wipe.result lines.Wipe c.args.store.now c.cleared.new.store _ _ (line_of c.cleared.result) c.cleared.ensures c.tell-in-Wipe.ensures.text c.tell-in-Wipe.ensures.cut c.tell-in-Wipe.ensures.fault);
      };
    }

pub returns-in-List : goal.returns-in-List
returns-in-List g c =
    record {
      does = record {
        name = c.list.ensures.tells.name;
        did = rw c.in-List.is (lists_so c.list.result c.args.store.now c.list.new.store _ (c.list.ensures.tells.did tt) (record { only_looked = c.list.ensures.only_reads; at_most = c.list.ensures.at_most tt }));
      };
    }

pub returns-in-Files : goal.returns-in-Files
returns-in-Files g c =
    record {
      does = record {
        name = c.list_files.ensures.tells.name;
        did = let told = c.list_files.ensures.tells.did tt in
            rw c.in-Files.is (does_so c.list_files.result lines.Files c.args.store.now c.list_files.new.store _ _ told.0 (tells_files told.1 (record { only_looked = c.list_files.ensures.only_reads; at_most = c.list_files.ensures.at_most })) told.2 told.3 c.list_files.ensures.fault);
      };
    }

pub returns-in_default : goal.returns-in_default
returns-in_default g c =
    let d = c.in_default in
    let tell = c.tell-in_default in
    record {
      does = record {
        name = tell.ensures.name;
        did = does_so tell.result c.args.line.now c.args.store.now c.args.store.now _ _ (line_of answers.OutOfOrder) (out_of_order (not_of_store c.args.line.now d.not-Store d.not-Bytes d.not-Fuse d.not-FailOnce d.not-Crash d.not-Files d.not-List d.not-Wipe) refl) tell.ensures.text tell.ensures.cut tell.ensures.fault;
      };
    }
