use Rattle.std.proofs.Common.{◌≡◌, ◌+◌, ◌∙◌, List, ℕ, ap, bytes_eq, cond, subst, sym, true}
use Rattle.std.proofs.lemmas.Result.{on_ok_weaker}
use Rattle.trace_views.specs.declared.stack_rows.StackRows.{StackRows}
use Rattle.trace_views.specs.declared.ends.Ends.{Ends}
use Rattle.trace_views.specs.declared.stacks.Stacks.{Stacks}
use Rattle.trace_times.specs.Opens.{called_at}
use Rattle.trace_views.specs.Stacks.{Calls, calls_at, folding, is_known, names_with, shown_text, with_call_of, with_names}
use Rattle.trace_views.proofs.StackLemmas.{Follows, called_more, folded_so, follows-call, follows_so, names_now, opened}
use Rattle.trace_views.proofs.stacks.Stacks.open.Goals as goal

pub returns : goal.returns
returns c before acts was =
    let process = c.args.process.now in
    let function = c.in_ok-function.function in
    let told = folding before acts in
    let names = names_with told process function.items in
    let shown = shown_text process names in
    let follows = follows-call (λ a b. bytes_eq a.items b.items) c.args.self.now.opens c.open.new.self told process (called_at function c.args.time) (rw c.new.ensures at c.in_ok-open.ensures) (follows_so before acts c.args.self.now was) in
    let stays = c.put_text.ensures.stays in
    let is_shown : c.deref.result.now ≡ shown =
    c.deref.ensures.value ∙ c.in_ok-put_text.ensures.text ∙ ap (λ (l : List (List ℕ)). shown_text process l) (follows.names process ∙ names_now told process names) in
    let tells : told.ends function.items ≡ true = sym (was.ends function.items) ∙ ap (λ (l : List ℕ). is_known c.args.self.now.ends l) c.in_ok-function.ensures.items ∙ c.requires in
    let opens : c.put_text.new.self.opens ≡ c.open.new.self = ap (λ (s : Stacks). s.opens) stays in
    let now : Follows c.put_text.new.self.opens (with_names told process names) = subst (λ o. Follows o (with_names told process names)) (sym opens) follows in
    rw (← c.in_ok-function.ensures.items) (on_ok_weaker c.call.result (λ calls. folded_so before acts (Calls process function.items) _ (with_call_of true told process function.items) (opened told process function.items tells)
    (record { names = now.names; count = now.count })
    (λ f. ap (λ (e : Ends). is_known e f) (ap (λ (s : Stacks). s.ends) stays) ∙ was.ends f)
    (λ text.
    calls text ∙ ap (λ (rows : StackRows). calls_at rows.rows text + cond (bytes_eq c.deref.result.now text) 1 0) (ap (λ (s : Stacks). s.rows) stays)
    ∙ ap (λ (l : List ℕ). calls_at c.args.self.now.rows.rows text + cond (bytes_eq l text) 1 0) is_shown
    ∙ ap (λ n. n + cond (bytes_eq shown text) 1 0) (was.calls text)
    ∙ sym (called_more text shown told.called))) c.call.ensures.calls)
