use Rattle.std.proofs.Common.{arith, rules}
use Rattle.tracees.specs.Jobs.{IsReserved}
use Rattle.tracees.proofs.Writing.{each_more, same_written}
use Rattle.tracees.proofs.threads.reserve_all.Goals as goal

pub loop-place-preserved : goal.loop-place-preserved
loop-place-preserved g c = record {
  same = same_written c.args.jobs.now c.loop-place.jobs c.loop-place.place c.reserve.new.job c.index-jobs-place.result (search rules) (omega arith) c.loop-place.invariant.same c.reserve.ensures.same;
  room = each_more (λ j. IsReserved j) c.loop-place.jobs c.loop-place.place c.reserve.new.job (omega arith) c.in_ok-reserve.ensures.room c.loop-place.invariant.room;
}

pub returns-in_err-reserve-clause-same : goal.returns-in_err-reserve-clause-same
returns-in_err-reserve-clause-same g c = same_written c.args.jobs.now c.loop-place.jobs c.loop-place.place c.reserve.new.job c.index-jobs-place.result (search rules) (omega arith) c.loop-place.invariant.same c.reserve.ensures.same
