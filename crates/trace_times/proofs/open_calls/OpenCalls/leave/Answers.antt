use Rattle.std.proofs.Common.{◌≡◌, ◌+◌, ◌∙◌, ◌-◌, ◌≤◌, IsSome, Some, ap, sym, refl, reverse, take, rules, subst, arith, length, length-take, deque_len}
use Rattle.std.proofs.lemmas.List.{length-reverse, take-take}
use Rattle.std.specs.HashMap.{get_by}
use Rattle.std.specs.Str.{bytes_eq}
use Rattle.trace_times.specs.Opens.{calls_in, open_calls, with_return}
use Rattle.trace_times.proofs.OpenLemmas.{has_calls}
use Rattle.trace_times.proofs.open_calls.OpenCalls.leave.Goals as goal

pub returns-in_err-place-clause-changes : goal.returns-in_err-place-clause-changes
returns-in_err-place-clause-changes g c =
    let process = c.args.process.now in
    let old = c.args.self.now in
    let stack = c.in_ok-stack.stack.now in
    let found : IsSome (get_by (λ k. bytes_eq process k.items) old.stacks) = subst IsSome c.in_ok-stack.ensures.value (search rules) in
    let had : open_calls old process ≡ reverse stack.items = sym (ap calls_in c.in_ok-stack.ensures.value) in
    let now : reverse stack.items ≡ with_return (λ call. g.F.PartialEq.eq call.function c.args.function.now) (open_calls old process) = rw (had, c.in_err-place.ensures.is) refl in
    record {
      calls = has_calls process old.stacks (c.get_mut.follows.lender stack) (Some stack) _ ((c.get_mut.follows.holds stack).3 found) now;
      count = rw (← now, had) (omega arith);
    }

pub returns-clause-changes : goal.returns-clause-changes
returns-clause-changes g c =
    let process = c.args.process.now in
    let old = c.args.self.now in
    let items = c.in_ok-stack.stack.now.items in
    let place = c.in_ok-place.place in
    let left = c.pop_back.new.self in
    let found : IsSome (get_by (λ k. bytes_eq process k.items) old.stacks) = subst IsSome c.in_ok-stack.ensures.value (search rules) in
    let had : open_calls old process ≡ reverse items = sym (ap calls_in c.in_ok-stack.ensures.value) in
    let now : reverse (take place items) ≡ with_return (λ call. g.F.PartialEq.eq call.function c.args.function.now) (open_calls old process) = rw (had, c.in_ok-place.ensures.is) refl in
    let within : place + 1 ≤ length items = search rules in
    let count : deque_len c.truncate.new.self - 1 ≡ place = omega (arith, c.truncate.ensures.len) in
    let is : left.items ≡ take place items =
    c.pop_back.ensures.rest ∙ ap (λ n. take n c.truncate.new.self.items) count ∙ ap (take place) c.truncate.ensures.items ∙ take-take place (place + 1) items (omega arith) in
    record {
      calls = has_calls process old.stacks (c.get_mut.follows.lender left) (Some left) _ ((c.get_mut.follows.holds left).3 found) (ap (λ l. reverse l) is ∙ now);
      count = rw (← now, had, length-reverse, length-reverse, length-take) (omega arith);
    }
