use Rattle.std.proofs.Common.{rules, ◌≡◌, [], Some, None, Ok, Err, refl, ap, ◌∙◌}
use Rattle.std.proofs.KnownBytes.{Appends-nil}
use Rattle.script_runner.specs.Texts.{line_of}
use Rattle.script_runner.specs.declared.answer.Answer.TheVariants as answers
use Rattle.script_runner.specs.declared.reply.Leave.TheVariants as leaving
use Rattle.script_runner.specs.declared.reply.Stop.TheVariants as stops
use Rattle.simulator.proofs.Simulating.{finished_so, failed_so}
use Rattle.simulator.proofs.sim.finish.Goals as goal

pub returns-in-Ok-Some-Abandoned : goal.returns-in-Ok-Some-Abandoned
returns-in-Ok-Some-Abandoned g c =
    let is : c.args.left ≡ Ok (Some leaving.Abandoned) = search rules in
    let tell = c.tell in
    record {
      over = record {
        name = tell.ensures.name;
        did = finished_so tell.result _ (Ok (Some leaving.Abandoned)) c.args.store.now c.args.store.now _ _ (line_of answers.Done) is (refl, refl) tell.ensures.text tell.ensures.cut tell.ensures.fault;
      };
    }

pub returns-in-Ok-Some-Closed : goal.returns-in-Ok-Some-Closed
returns-in-Ok-Some-Closed g c =
    let is : c.args.left ≡ Ok (Some leaving.Closed) = search rules in
    let tell = c.tell-in-Ok-Some-Closed in
    record {
      over = record {
        name = tell.ensures.name;
        did = finished_so tell.result _ (Ok (Some leaving.Closed)) c.args.store.now c.args.store.now _ _ (line_of answers.Closed) is (refl, refl) tell.ensures.text tell.ensures.cut tell.ensures.fault;
      };
    }

pub returns-in-Ok-Some-Crashed : goal.returns-in-Ok-Some-Crashed
returns-in-Ok-Some-Crashed g c =
    let at = c.in-Ok-Some-Crashed in
    let is : c.args.left ≡ Ok (Some (leaving.Crashed at.unsynced)) = search rules in
    let tell = c.tell-in-Ok-Some-Crashed in
    record {
      over = record {
        name = tell.ensures.name;
        did = finished_so tell.result _ (Ok (Some (leaving.Crashed at.unsynced))) c.args.store.now c.crashed.new.store _ _ (line_of c.crashed.result) is c.crashed.ensures tell.ensures.text tell.ensures.cut tell.ensures.fault;
      };
    }

pub returns-in-Ok-None : goal.returns-in-Ok-None
returns-in-Ok-None g c =
    let is : c.args.left ≡ Ok None = search rules in
    record { over = record { name = refl; did = finished_so (Ok tt) _ (Ok None) c.args.store.now c.args.store.now _ _ [] is (refl, refl) (Appends-nil _) tt tt } }

pub returns-in-Err-Refused : goal.returns-in-Err-Refused
returns-in-Err-Refused g c =
    let at = c.in-Err-Refused in
    let tell = c.tell-in-Err-Refused in
    record {
      over = record {
        name = tell.ensures.name;
        did = finished_so tell.result _ (Err (stops.Refused at.refusal)) c.args.store.now c.args.store.now _ _ (line_of (answers.Refused at.refusal)) (at.is ∙ ap Err at.field-0-is) (refl, refl) tell.ensures.text tell.ensures.cut tell.ensures.fault;
      };
    }

pub returns-in-Err-Failed : goal.returns-in-Err-Failed
returns-in-Err-Failed g c =
    let at = c.in-Err-Failed in
    record { over = record { name = refl; did = failed_so _ at.fault c.args.store.now _ (at.is ∙ ap Err at.field-0-is) } }
