use Rattle.std.proofs.Common.{arith}
use Rattle.trace_text.specs.AnyReading.{any_inner_of}
use Rattle.trace_text.proofs.PartLemmas.{some_list, tail_opens, other_none}
use Rattle.trace_text.proofs.message.+opening.Goals as goal

pub opened_behind-returns-then-count-gt0 : goal.opened_behind-returns-then-count-gt0
opened_behind-returns-then-count-gt0 t c =
    some_list (any_inner_of c.args.room) _ c.in_ok-inner-in-List.ensures.gives c.args.tag c.args.bytes.now _ _ c.in-List.is c.in_ok-count-in-List.ensures (omega (arith, c.if-count-gt0.true))

pub opened_behind-returns-else-count-gt0 : goal.opened_behind-returns-else-count-gt0
opened_behind-returns-else-count-gt0 t c =
    tail_opens (any_inner_of c.args.room) _ c.in_ok-inner-in-List.ensures.gives c.args.tag c.args.bytes.now _ _ c.opened_at.result c.in-List.is c.in_ok-count-in-List.ensures (omega (arith, c.if-count-gt0.false)) c.opened_at.ensures

pub opened_behind-returns-in_default : goal.opened_behind-returns-in_default
opened_behind-returns-in_default t c = other_none (any_inner_of c.args.room) c.args.tag c.args.bytes.now c.in_default.not-SmallTuple c.in_default.not-LargeTuple c.in_default.not-List
