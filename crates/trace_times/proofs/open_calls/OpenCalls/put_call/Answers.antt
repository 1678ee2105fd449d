use Rattle.std.proofs.Common.{◌≡◌, ◌∙◌, IsSome, Some, ap, sym, reverse, rules, subst}
use Rattle.std.specs.HashMap.{get_by}
use Rattle.std.specs.Str.{bytes_eq}
use Rattle.std.proofs.lemmas.Result.{on_ok_weaker}
use Rattle.trace_times.specs.Opens.{calls_in, newest_of, open_calls, placed, with_call}
use Rattle.trace_times.proofs.OpenLemmas.{has_calls}
use Rattle.trace_times.proofs.open_calls.OpenCalls.put_call.Goals as goal

pub returns-in-Some-clause-calls : goal.returns-in-Some-clause-calls
returns-in-Some-clause-calls g c =
    let process = c.args.process.now in
    let old = c.args.self.now in
    let full = c.args.is_full in
    let found : IsSome (get_by (λ k. bytes_eq process k.items) old.stacks) = subst IsSome c.in-Some.ensures.value (search rules) in
    let had : open_calls old process ≡ reverse c.in-Some.stack.now.items = sym (ap calls_in c.in-Some.ensures.value) in
    on_ok_weaker c.push.result (λ is. has_calls process old.stacks (c.get_mut.follows.lender c.push.new.stack) (Some c.push.new.stack) _ ((c.get_mut.follows.holds c.push.new.stack).3 found)
    (is ∙ ap (λ one. with_call full one (reverse c.in-Some.stack.now.items)) c.placed_on-call.ensures
    ∙ ap (λ calls. with_call full (placed g.F.PartialEq.eq c.args.call (newest_of calls)) calls) (sym had))) c.push.ensures.is
