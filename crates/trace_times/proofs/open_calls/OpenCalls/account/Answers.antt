use Rattle.std.proofs.Common.{◌≡◌, ◌∙◌, IsSome, Some, ap, sym, reverse, rules, subst, arith}
use Rattle.std.specs.HashMap.{get_by}
use Rattle.std.specs.Str.{bytes_eq}
use Rattle.trace_times.specs.Opens.{calls_in, open_calls, ended_at}
use Rattle.trace_times.proofs.OpenLemmas.{has_calls, length-ended_at}
use Rattle.trace_times.proofs.open_calls.OpenCalls.account.Goals as goal

pub returns-in-Some : goal.returns-in-Some
returns-in-Some g c =
    let process = c.args.process.now in
    let old = c.args.self.now in
    let stack = c.account.new.stack in
    let found : IsSome (get_by (λ k. bytes_eq process k.items) old.stacks) = subst IsSome c.in-Some.ensures.value (search rules) in
    let had : open_calls old process ≡ reverse c.in-Some.stack.now.items = sym (ap calls_in c.in-Some.ensures.value) in
    let now : reverse stack.items ≡ ended_at c.args.ended (open_calls old process) = c.account.ensures ∙ ap (ended_at c.args.ended) (sym had) in
    record {
      calls = has_calls process old.stacks (c.get_mut.follows.lender stack) (Some stack) _ ((c.get_mut.follows.holds stack).3 found) now;
      count = omega (arith, length-ended_at c.args.ended (open_calls old process));
    }
