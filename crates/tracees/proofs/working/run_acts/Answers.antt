use Rattle.std.proofs.Common.{◌≡◌, ◌+◌, true, false, List, [], ◌∷◌, ◌++◌, length, take, slice_get, Some, IfOk, IfErr, rules, arith, refl, sym, ◌∙◌, ap, subst, take_all}
use Rattle.std.proofs.lemmas.List.{take_more}
use Rattle.std.proofs.lemmas.Option.{slice_get_read}
use Rattle.intake.specs.Tracees.{SameSetup}
use Rattle.tracees.specs.Jobs.{Does, Fails, receipts_given, Acts, begin, Did}
use Rattle.tracees.specs.States.{seat_of}
use Rattle.tracees.specs.declared.job.Act.{Act}
use Rattle.tracees.specs.declared.receipt.Receipt.{Receipt}
use Rattle.tracees.proofs.Carried.{setup_both}
use Rattle.tracees.proofs.Worked.{so_far_of, did_of, left_of, failed_of, acts_more, through_more}
use Rattle.tracees.proofs.working.run_acts.Goals as goal

pub loop-place-init : goal.loop-place-init
loop-place-init g c =
    let was = seat_of g.K.Bookkeeping c.args.traced.now in
    record {
      acted = subst (λ (l : List Receipt). Acts g.P.TracePort.told was [] l was) (sym c.requires.empty) begin;
      room = refl;
      count = search rules;
      through = λ act within. absurd (omega (arith, within));
    }

-- the gate is shut before an act
pub returns-in_default-clause-ended : goal.returns-in_default-clause-ended
returns-in_default-clause-ended g c =
    let told = g.P.TracePort.told in
    let was = seat_of g.K.Bookkeeping c.args.traced.now in
    let done = take c.loop-place.place c.args.acts.now in (
      c.loop-place-test.true,
      subst (λ t. Did told was (seat_of g.K.Bookkeeping t) done c.loop-place.receipts.items) (sym (c.act_by_gate.ensures.shut c.in_default.is))
          (did_of told was (seat_of g.K.Bookkeeping c.loop-place.traced) done c.loop-place.receipts.items c.loop-place.invariant.acted),
    )

pub returns-in_default-clause-gate : goal.returns-in_default-clause-gate
returns-in_default-clause-gate g c =
    let so_far = so_far_of g.P.TracePort.told (seat_of g.K.Bookkeeping c.args.traced.now) (seat_of g.K.Bookkeeping c.loop-place.traced) (take c.loop-place.place c.args.acts.now) c.loop-place.receipts.items c.loop-place.invariant.acted in
    (c.loop-place.invariant.through, subst (λ n. g.G.Gate.answers c.args.gate.now n c.loop-place.place false) so_far.setup.number c.in_default.ensures.gate)

pub returns-in_default-clause-setup : goal.returns-in_default-clause-setup
returns-in_default-clause-setup g c =
    let so_far = so_far_of g.P.TracePort.told (seat_of g.K.Bookkeeping c.args.traced.now) (seat_of g.K.Bookkeeping c.loop-place.traced) (take c.loop-place.place c.args.acts.now) c.loop-place.receipts.items c.loop-place.invariant.acted in
    subst (λ t. SameSetup c.args.traced.now.tracee t.tracee) (sym (c.act_by_gate.ensures.shut c.in_default.is)) so_far.setup

pub returns-in_default-clause-desk : goal.returns-in_default-clause-desk
returns-in_default-clause-desk g c =
    let so_far = so_far_of g.P.TracePort.told (seat_of g.K.Bookkeeping c.args.traced.now) (seat_of g.K.Bookkeeping c.loop-place.traced) (take c.loop-place.place c.args.acts.now) c.loop-place.receipts.items c.loop-place.invariant.acted in
    subst (λ t. t.desk ≡ c.args.traced.now.desk) (sym (c.act_by_gate.ensures.shut c.in_default.is)) so_far.desk

-- an act failed
pub returns-in-Err-clause-ended : goal.returns-in-Err-clause-ended
returns-in-Err-clause-ended g c =
    let told = g.P.TracePort.told in
    let xs = c.args.acts.now in
    let was = seat_of g.K.Bookkeeping c.args.traced.now in
    let mid = seat_of g.K.Bookkeeping c.loop-place.traced in
    let is = seat_of g.K.Bookkeeping c.act_by_gate.new.traced in
    let act = c.index-acts-place.result in
    let there : slice_get xs c.loop-place.place ≡ Some act = slice_get_read xs (length xs) c.loop-place.place act refl c.loop-place-test.true c.index-acts-place.is in
    failed_of told was mid is xs c.loop-place.place c.loop-place.receipts.items act c.in-Err.fault there c.loop-place.invariant.acted (subst (λ done. IfErr done (λ fault. Fails told mid is act fault)) c.in-Err.is c.in-Some.ensures.fails)

pub returns-in-Err-clause-gate : goal.returns-in-Err-clause-gate
returns-in-Err-clause-gate g c =
    let so_far = so_far_of g.P.TracePort.told (seat_of g.K.Bookkeeping c.args.traced.now) (seat_of g.K.Bookkeeping c.loop-place.traced) (take c.loop-place.place c.args.acts.now) c.loop-place.receipts.items c.loop-place.invariant.acted in
    let answers = g.G.Gate.answers c.args.gate.now in
    let ends = g.G.Gate.told c.args.gate.now in
    let own = c.args.traced.now.tracee.number in
    let passed = subst (λ n. answers n c.loop-place.place true × ends n c.loop-place.place) so_far.setup.number c.in-Some.ensures.gate in
    through_more (answers own) (ends own) c.loop-place.place c.loop-place.invariant.through passed.0 passed.1

pub returns-in-Err-clause-setup : goal.returns-in-Err-clause-setup
returns-in-Err-clause-setup g c =
    let told = g.P.TracePort.told in
    let was = seat_of g.K.Bookkeeping c.args.traced.now in
    let mid = seat_of g.K.Bookkeeping c.loop-place.traced in
    let is = seat_of g.K.Bookkeeping c.act_by_gate.new.traced in
    let act = c.index-acts-place.result in
    let so_far = so_far_of told was mid (take c.loop-place.place c.args.acts.now) c.loop-place.receipts.items c.loop-place.invariant.acted in
    setup_both was.tracee mid.tracee is.tracee so_far.setup (left_of told mid is act c.in-Err.fault (subst (λ done. IfErr done (λ fault. Fails told mid is act fault)) c.in-Err.is c.in-Some.ensures.fails)).takes.setup

pub returns-in-Err-clause-desk : goal.returns-in-Err-clause-desk
returns-in-Err-clause-desk g c =
    let told = g.P.TracePort.told in
    let was = seat_of g.K.Bookkeeping c.args.traced.now in
    let mid = seat_of g.K.Bookkeeping c.loop-place.traced in
    let is = seat_of g.K.Bookkeeping c.act_by_gate.new.traced in
    let act = c.index-acts-place.result in
    (left_of told mid is act c.in-Err.fault (subst (λ done. IfErr done (λ fault. Fails told mid is act fault)) c.in-Err.is c.in-Some.ensures.fails)).desk
    ∙ (so_far_of told was mid (take c.loop-place.place c.args.acts.now) c.loop-place.receipts.items c.loop-place.invariant.acted).desk

-- an act was done
pub loop-place-preserved : goal.loop-place-preserved
loop-place-preserved g c =
    let told = g.P.TracePort.told in
    let xs = c.args.acts.now in
    let act = c.index-acts-place.result in
    let place = c.loop-place.place in
    let was = seat_of g.K.Bookkeeping c.args.traced.now in
    let mid = seat_of g.K.Bookkeeping c.loop-place.traced in
    let is = seat_of g.K.Bookkeeping c.act_by_gate.new.traced in
    let next : take (place + 1) xs ≡ take place xs ++ act ∷ [] = take_more xs place act c.loop-place-test.true ∙ ap (λ (a : Act). take place xs ++ a ∷ []) (sym c.index-acts-place.is) in
    let does = subst (λ done. IfOk done (λ given. Does told mid is act (receipts_given given))) c.in-Ok.is c.in-Some.ensures.does in
    let so_far = so_far_of told was mid (take place xs) c.loop-place.receipts.items c.loop-place.invariant.acted in
    let answers = g.G.Gate.answers c.args.gate.now in
    let ends = g.G.Gate.told c.args.gate.now in
    let own = c.args.traced.now.tracee.number in
    let passed = subst (λ n. answers n place true × ends n place) so_far.setup.number c.in-Some.ensures.gate in
    record {
      acted = acts_more told was mid is xs place c.loop-place.receipts.items c.keep.new.receipts.items (receipts_given c.in-Ok.given) act next c.loop-place.invariant.acted c.keep.ensures.kept does;
      room = c.keep.ensures.room ∙ c.loop-place.invariant.room;
      count = omega (arith, c.keep.ensures.count, c.loop-place.invariant.count);
      through = through_more (answers own) (ends own) place c.loop-place.invariant.through passed.0 passed.1;
    }

-- all acts were done
pub returns-clause-ended : goal.returns-clause-ended
returns-clause-ended g c =
    let told = g.P.TracePort.told in
    let xs = c.args.acts.now in
    let was = seat_of g.K.Bookkeeping c.args.traced.now in
    let is = seat_of g.K.Bookkeeping c.loop-place.traced in
    let all : take c.loop-place.place xs ≡ xs = take_all c.loop-place.place xs (omega (arith, c.loop-place-test.false)) in
    did_of told was is xs c.loop-place.receipts.items (subst (λ (l : List Act). Acts told was l c.loop-place.receipts.items is) all c.loop-place.invariant.acted)

pub returns-clause-desk : goal.returns-clause-desk
returns-clause-desk g c =
    (so_far_of g.P.TracePort.told (seat_of g.K.Bookkeeping c.args.traced.now) (seat_of g.K.Bookkeeping c.loop-place.traced) (take c.loop-place.place c.args.acts.now) c.loop-place.receipts.items c.loop-place.invariant.acted).desk

pub returns-clause-setup : goal.returns-clause-setup
returns-clause-setup g c =
    (so_far_of g.P.TracePort.told (seat_of g.K.Bookkeeping c.args.traced.now) (seat_of g.K.Bookkeeping c.loop-place.traced) (take c.loop-place.place c.args.acts.now) c.loop-place.receipts.items c.loop-place.invariant.acted).setup
