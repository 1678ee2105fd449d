use Rattle.std.proofs.Common.{subst, arith}
use Rattle.std.proofs.lemmas.List.{take_rest}
use Rattle.prepared_requests.specs.Ahead.{MayFollow}
use Rattle.prepared_requests.proofs.AheadSights.{none_further}
use Rattle.prepared_requests.proofs.ahead_scan.scan.Goals as goal

pub loop-place-preserved : goal.loop-place-preserved
loop-place-preserved c = none_further c.args.longest c.args.from c.loop-place.place c.args.bytes.now c.loop-place.invariant c.in-Never.ensures

pub returns-clause-none : goal.returns-clause-none
returns-clause-none c = λ p after before. c.loop-place.invariant p after (omega (arith, before, c.loop-place-test.false))

pub returns-in-Unknown-clause-unknown : goal.returns-in-Unknown-clause-unknown
returns-in-Unknown-clause-unknown c = λ no. subst (MayFollow c.args.longest) (take_rest c.args.bytes.now c.loop-place.place) c.in-Unknown.ensures
