use Rattle.std.proofs.lemmas.Result.{err_from_is_err_and}
use Rattle.trace_terms.specs.View.{view, members_view}
use Rattle.ext_format.specs.Reading.{term_at, members_at}
use Rattle.ext_format.proofs.Loop.{members_view-push, goes_on, ends, is_done}
use Rattle.ext_format.proofs.reading.+reading.Goals as goal

pub members_of-returns-in_err-member : goal.members_of-returns-in_err-member
members_of-returns-in_err-member t c =
    let p = err_from_is_err_and c.from_residual-in_err-member.result c.from_residual-in_err-member.ensures.1 in
    let read = term_at c.args.inner in
    rw (p.1, p.2) (ends read c.in_err-member.field-0.0 (members_view c.loop.members.items) c.args.count c.loop.counter c.loop.rest.now (members_at read c.args.count c.args.bytes.now) c.loop-test.true c.in_err-member.ensures c.loop.invariant)

pub members_of-loop-preserved : goal.members_of-loop-preserved
members_of-loop-preserved t c =
    let read = term_at c.args.inner in
    let m = c.in_ok-member.member in
    rw (c.in_ok-push.ensures.items, members_view-push c.loop.members.items m) (goes_on read (members_view c.loop.members.items) c.args.count c.loop.counter c.loop.rest.now (view m) c.in_ok-member.after.now (members_at read c.args.count c.args.bytes.now) c.loop-test.true c.in_ok-member.ensures c.loop.invariant)

pub members_of-returns : goal.members_of-returns
members_of-returns t c =
    let read = term_at c.args.inner in
    is_done read (members_view c.loop.members.items) c.args.count c.loop.counter c.loop.rest.now (members_at read c.args.count c.args.bytes.now) c.loop-test.false c.loop.invariant
