use Rattle.std.proofs.Common.{◌≡◌, ◌∙◌, IsSome, Some, ap, sym, reverse, rules, subst, arith}
use Rattle.std.proofs.lemmas.List.{length-reverse}
use Rattle.std.specs.HashMap.{get_by}
use Rattle.std.specs.Str.{bytes_eq}
use Rattle.trace_times.specs.Opens.{back_in, calls_in, open_calls}
use Rattle.trace_times.proofs.OpenLemmas.{has_calls}
use Rattle.trace_times.proofs.open_calls.OpenCalls.back_to.Goals as goal

pub returns-in-Some : goal.returns-in-Some
returns-in-Some g c =
    let process = c.args.process.now in
    let old = c.args.self.now in
    let items = c.in-Some.stack.now.items in
    let stack = c.come_back-count.new.stack in
    let found : IsSome (get_by (λ k. bytes_eq process k.items) old.stacks) = subst IsSome c.in-Some.ensures.value (search rules) in
    let had : open_calls old process ≡ reverse items = sym (ap calls_in c.in-Some.ensures.value) in
    let now : reverse stack.items ≡ back_in (λ call. g.F.PartialEq.eq call.function c.args.function.now) (open_calls old process) = c.come_back-count.ensures.is ∙ ap (back_in (λ call. g.F.PartialEq.eq call.function c.args.function.now)) (sym had) in
    record {
      calls = has_calls process old.stacks (c.get_mut.follows.lender stack) (Some stack) _ ((c.get_mut.follows.holds stack).3 found) now;
      count = rw (← now, had, length-reverse, length-reverse) (omega (arith, c.come_back-count.ensures.count));
    }
