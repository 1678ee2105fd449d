use Rattle.std.proofs.Common.{rules, ◌≡◌, Some, None, Ok, Err, length, refl, sym, subst}
use Rattle.std.proofs.KnownBytes.{Appends-nil}
use Rattle.stores.specs.MemStore.{reads_of}
use Rattle.stores.specs.declared.mem_store.MemStore.{MemStore}
use Rattle.script_lines.specs.Lines.{IsOfFiles}
use Rattle.simulator.specs.Simulated.{on_port, no_port, alone, fails}
use Rattle.simulator.proofs.Simulating.{left_alone}
use Rattle.simulator.proofs.sim.run_line.Goals as goal

pub run_store_line-requires-clause-file : goal.run_store_line-requires-clause-file
run_store_line-requires-clause-file g c =
    let none : c.open.result ≡ Ok None = search rules in
    subst (λ (s : MemStore). IsOfFiles (length (reads_of s)) c.args.line.now) (sym (left_alone c.args.line.now c.args.store.now c.open.new.store c.open.result c.open.ensures.opens none)) c.requires.file

pub returns-in-Ok : goal.returns-in-Ok
returns-in-Ok g c =
    record {
      runs = let held = c.in-Ok.ensures.held in
          let some : c.open.result ≡ Ok (Some (c.in-Ok-Some.opening, c.in-Ok-Some.origin)) = search rules in
          record {
            name = held.name;
            of_desk = held.of_desk;
            reader = held.reader;
            did = on_port c.open.new.store c.in-Ok-Some.opening c.in-Ok-Some.origin (Ok _) (rw some at c.open.ensures.opens) held.did;
          };
    }

pub returns-in-Err-hold : goal.returns-in-Err-hold
returns-in-Err-hold g c =
    record {
      runs = let held = c.in-Err-hold.ensures.held in
          let some : c.open.result ≡ Ok (Some (c.in-Ok-Some.opening, c.in-Ok-Some.origin)) = search rules in
          record {
            name = held.name;
            of_desk = held.of_desk;
            reader = held.reader;
            did = on_port c.open.new.store c.in-Ok-Some.opening c.in-Ok-Some.origin (Err _) (rw some at c.open.ensures.opens) held.did;
          };
    }

pub returns-in-Ok-run_store_line : goal.returns-in-Ok-run_store_line
returns-in-Ok-run_store_line g c =
    record {
      runs = let does = c.in-Ok-run_store_line.ensures.does in
          let none : c.open.result ≡ Ok None = search rules in
          record { name = does.name; of_desk = refl; reader = refl; did = alone c.open.new.store (rw none at c.open.ensures.opens) does.did refl };
    }

pub returns-in-Err-run_store_line : goal.returns-in-Err-run_store_line
returns-in-Err-run_store_line g c =
    record {
      runs = let does = c.in-Err-run_store_line.ensures.does in
          let none : c.open.result ≡ Ok None = search rules in
          record { name = does.name; of_desk = refl; reader = refl; did = fails c.open.new.store (rw none at c.open.ensures.opens) does.did refl };
    }

pub returns-in-Err : goal.returns-in-Err
returns-in-Err g c =
    record {
      runs = let refused : c.open.result ≡ Err c.in-Err.refusal = search rules in
          record { name = refl; of_desk = refl; reader = refl; did = no_port (rw refused at c.open.ensures.opens) refl (Appends-nil _) };
    }
