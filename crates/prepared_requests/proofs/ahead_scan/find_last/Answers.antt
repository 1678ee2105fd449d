use Rattle.std.proofs.Common.{◌<◌, true, refl, subst, arith}
use Rattle.std.proofs.lemmas.List.{take_rest}
use Rattle.prepared_requests.specs.Ahead.{Follow, found, found_none}
use Rattle.prepared_requests.proofs.AheadSights.{none_whole, whole_further}
use Rattle.prepared_requests.proofs.ahead_scan.find_last.Goals as goal

pub loop-place-init : goal.loop-place-init
loop-place-init c =
    let some : 0 < c.find-found.result.place = omega (arith, c.if-found-eq0.false) in
    none_whole true c.args.longest c.find-found.result.place c.args.bytes.now (c.find-found.ensures.none some).none

pub loop-place-preserved : goal.loop-place-preserved
loop-place-preserved c = whole_further c.args.longest c.loop-place.place c.entries_follow.result c.args.bytes.now c.loop-place.invariant c.entries_follow.ensures c.in_default.not-Now

pub returns-in-Now-clause-ahead : goal.returns-in-Now-clause-ahead
returns-in-Now-clause-ahead c =
    let some : 0 < c.find-found.result.place = omega (arith, c.if-found-eq0.false) in
    found c.loop-place.place (omega (arith, some, c.loop-place.auto.place)) (c.find-found.ensures.none some).unbegun c.loop-place.invariant
    (subst (Follow c.args.longest) (take_rest c.args.bytes.now c.loop-place.place) c.in-Now.ensures)

pub returns-clause-ahead : goal.returns-clause-ahead
returns-clause-ahead c =
    let some : 0 < c.find-found.result.place = omega (arith, c.if-found-eq0.false) in
    found_none refl (c.find-found.ensures.none some).unbegun (λ p after before. c.loop-place.invariant p after (omega (arith, before, c.loop-place-test.false)))
