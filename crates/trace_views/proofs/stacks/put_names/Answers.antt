use Rattle.std.proofs.Common.{◌≡◌, ◌<◌, ◌∙◌, ◌-◌, ◌++◌, ◌∷◌, get_or, length, rules}
use Rattle.trace_views.specs.Stacks.{one_name}
use Rattle.trace_views.proofs.StackLemmas.{text-end, text-step}
use Rattle.trace_views.proofs.stacks.put_names.Goals.{in-Some+in_ok-put_behind, in_default}
use Rattle.trace_views.proofs.stacks.put_names.Goals as goal

pub loop-place-preserved : goal.loop-place-preserved
loop-place-preserved c =
    let calls = c.args.stack.now.items in
    let place = c.loop-place.place in
    let within : place < length calls = search rules in
    elim c.match-get.branch [
      | in-Some+in_ok-put_behind w ↦
          let is : w.in-Some.call.now ≡ get_or calls place w.in-Some.call.now = search rules in
          let all : c.match-get.text.items ≡ c.loop-place.text.items ++ (59 ∷ one_name w.in-Some.call.now.function.items) = search rules in
          all ∙ text-step c.args.text.now.items calls c.saturating_sub-first.result place w.in-Some.call.now c.loop-place.text.items (search rules) within is c.loop-place.invariant
      | in_default w ↦ absurd (search rules)
    ]

pub returns : goal.returns
returns c =
    let calls = c.args.stack.now.items in
    let at_end : c.loop-place.place ≡ length calls = search rules in
    let from : c.saturating_sub-first.result ≡ length calls - c.args.most = search rules in
    rw (from, at_end) at c.loop-place.invariant ∙ text-end c.args.text.now.items calls c.args.most
