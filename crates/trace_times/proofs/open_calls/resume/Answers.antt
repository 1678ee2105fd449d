use Rattle.std.proofs.Common.{◌≡◌, ◌+◌, ◌-◌, deque_len, length, rules}
use Rattle.trace_times.proofs.OpenLemmas.{going_on-last}
use Rattle.trace_times.proofs.open_calls.resume.Goals as goal

pub returns-in-Some : goal.returns-in-Some
returns-in-Some g c =
    let all : deque_len c.args.stack.now - 1 + 1 ≡ length c.args.stack.now.items = search rules in
    going_on-last c.args.stack.now.items (deque_len c.args.stack.now - 1) c.in-Some.call.now all (search rules) c.args.time
