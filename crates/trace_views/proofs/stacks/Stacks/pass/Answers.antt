use Rattle.std.proofs.Common.{◌≡◌, ◌+◌, ◌∙◌, ◌∷◌, List, ℕ, ap, bytes_eq, cond, sym, false}
use Rattle.std.proofs.lemmas.Result.{on_ok_weaker}
use Rattle.trace_views.specs.declared.stack_rows.StackRows.{StackRows}
use Rattle.trace_views.specs.declared.ends.Ends.{Ends}
use Rattle.trace_views.specs.declared.stacks.Stacks.{Stacks}
use Rattle.trace_views.specs.Stacks.{Calls, calls_at, folding, is_known, names_of, shown_text, with_call_of}
use Rattle.trace_views.proofs.StackLemmas.{called_more, folded_so, follows-going_on, follows_so, passed, text-more}
use Rattle.trace_views.proofs.stacks.Stacks.pass.Goals as goal

pub returns : goal.returns
returns c before acts was =
    let process = c.args.process.now in
    let function = c.args.function.now in
    let old = c.args.self.now in
    let told = folding before acts in
    let shown = shown_text process (function ∷ told.opens process) in
    let tells : told.ends function ≡ false = sym (was.ends function) ∙ c.requires in
    let stays = c.put_text.ensures.stays in
    let had = follows_so before acts old was in
    let follows = follows-going_on old.opens c.resume.new.self told process c.args.time (rw (ap (λ (s : Stacks). s.opens) stays) at c.resume.ensures) had in
    let is_shown : c.deref.result.now ≡ shown =
    c.deref.ensures.value ∙ c.in_ok-put_behind.ensures ∙ text-more process function (names_of old.opens process) c.put_text.new.self.text.items c.in_ok-put_text.ensures.text ∙ ap (λ (l : List (List ℕ)). shown_text process (function ∷ l)) (was.opens process) in
    on_ok_weaker c.call.result (λ calls. folded_so before acts (Calls process function) _ (with_call_of false told process function) (passed told process function tells) (record { names = follows.names; count = follows.count })
    (λ f. ap (λ (e : Ends). is_known e f) (ap (λ (s : Stacks). s.ends) stays) ∙ was.ends f)
    (λ text.
    calls text ∙ ap (λ (rows : StackRows). calls_at rows.rows text + cond (bytes_eq c.deref.result.now text) 1 0) (ap (λ (s : Stacks). s.rows) stays)
    ∙ ap (λ (l : List ℕ). calls_at old.rows.rows text + cond (bytes_eq l text) 1 0) is_shown
    ∙ ap (λ n. n + cond (bytes_eq shown text) 1 0) (was.calls text)
    ∙ sym (called_more text shown told.called))) c.call.ensures.calls
