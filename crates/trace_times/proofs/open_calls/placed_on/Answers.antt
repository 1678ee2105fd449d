use Rattle.std.proofs.Common.{◌≡◌, ◌+◌, ◌-◌, ◌∙◌, ap, sym, deque_len, length, rules}
use Rattle.trace_times.specs.Opens.{placed}
use Rattle.trace_times.proofs.OpenLemmas.{newest-last}
use Rattle.trace_times.proofs.open_calls.placed_on.Goals as goal

pub returns-in-Some : goal.returns-in-Some
returns-in-Some g c =
    let all : deque_len c.args.stack.now - 1 + 1 ≡ length c.args.stack.now.items = search rules in
    c.placed_in.ensures ∙ ap (placed g.F.PartialEq.eq c.args.call) (sym (newest-last c.args.stack.now.items (deque_len c.args.stack.now - 1) c.in-Some.around.now all (search rules)))
