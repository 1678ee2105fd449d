use Rattle.std.proofs.Common.{refl, arith}
use Rattle.prepared_requests.specs.Ahead.{begun, nothing, waits}
use Rattle.prepared_requests.proofs.AheadSights.{none_joined, found_ahead}
use Rattle.prepared_requests.proofs.ahead_scan.find.Goals as goal

pub returns-then-passed-gt0-clause-none : goal.returns-then-passed-gt0-clause-none
returns-then-passed-gt0-clause-none c = λ some. none_joined c.args.longest c.args.passed c.scan.result.place c.args.bytes.now (c.requires.none c.if-passed-gt0.true) c.scan.ensures.none

pub returns-then-passed-gt0-clause-there : goal.returns-then-passed-gt0-clause-there
returns-then-passed-gt0-clause-there c = λ there.
    found_ahead c.args.longest c.scan.result.place c.args.bytes.now (omega (arith, c.if-passed-gt0.true, c.scan.ensures.within.0))
    (none_joined c.args.longest c.args.passed c.scan.result.place c.args.bytes.now (c.requires.none c.if-passed-gt0.true) c.scan.ensures.none) (c.scan.ensures.there there)

pub returns-in-Never-clause-there : goal.returns-in-Never-clause-there
returns-in-Never-clause-there c = λ there.
    found_ahead c.args.longest c.scan-in-Never.result.place c.args.bytes.now (omega (arith, c.scan-in-Never.ensures.within.0))
    (record { unbegun = c.in-Never.ensures; none = c.scan-in-Never.ensures.none }) (c.scan-in-Never.ensures.there there)

pub returns-in-Unknown-clause-few : goal.returns-in-Unknown-clause-few
returns-in-Unknown-clause-few c = λ none. nothing refl c.in-Unknown.ensures

pub returns-in-Now-clause-there : goal.returns-in-Now-clause-there
returns-in-Now-clause-there c = λ there. begun c.in-Now.ensures

pub returns-in-Now-clause-few : goal.returns-in-Now-clause-few
returns-in-Now-clause-few c = λ none. begun c.in-Now.ensures

pub returns-then-passed-gt0-clause-unknown : goal.returns-then-passed-gt0-clause-unknown
returns-then-passed-gt0-clause-unknown c = λ no.
    waits c.scan.result.place (none_joined c.args.longest c.args.passed c.scan.result.place c.args.bytes.now (c.requires.none c.if-passed-gt0.true) c.scan.ensures.none) (c.scan.ensures.unknown no)

pub returns-in-Never-clause-unknown : goal.returns-in-Never-clause-unknown
returns-in-Never-clause-unknown c = λ no.
    waits c.scan-in-Never.result.place (record { unbegun = c.in-Never.ensures; none = c.scan-in-Never.ensures.none }) (c.scan-in-Never.ensures.unknown no)
