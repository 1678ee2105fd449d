use Rattle.std.proofs.Common.{◌∙◌, ap, bytes_eq, refl, subst, sym, true, cond}
use Rattle.std.proofs.lemmas.Result.{on_ok_weaker}
use Rattle.trace_views.specs.declared.ends.Ends.{Ends}
use Rattle.trace_views.specs.declared.stack_rows.StackRows.{StackRows}
use Rattle.trace_views.specs.declared.stacks.Stacks.{Stacks}
use Rattle.trace_times.specs.Opens.{with_return}
use Rattle.trace_views.specs.Stacks.{Returns, calls_at, folding, is_known, with_end, with_names}
use Rattle.trace_views.proofs.StackLemmas.{Follows, folded_so, follows-going_on, follows-return, follows_so}
use Rattle.trace_views.proofs.stacks.Stacks.leave.Goals as goal

pub returns : goal.returns
returns c before acts was =
    let process = c.args.process.now in
    let spent = c.in_ok-spend.ensures before acts was in
    let told = folding before acts in
    let stays = c.put_left.ensures.stays in
    let name = c.put_left.new.self.left.items in
    let had : Follows c.put_left.new.self.opens told = subst (λ o. Follows o told) (sym (ap (λ (s : Stacks). s.opens) stays)) (follows_so before acts c.spend.new.self spent) in
    let left = follows-return c.put_left.new.self.opens c.leave-closed.new.self told process name c.leave-closed.ensures.changes had in
    let follows = follows-going_on c.leave-closed.new.self c.resume.new.self _ process c.args.time c.resume.ensures left in
    rw (← c.in_ok-put_left.ensures.left) (on_ok_weaker c.learn.result (λ learned. folded_so before acts (Returns process name) _ (with_end (with_names told process (with_return (λ one. bytes_eq one name) (told.opens process))) name) refl (record { names = follows.names; count = follows.count })
    (λ f. rw (← c.in_ok-put_left.ensures.left) at learned f ∙ ap (λ known. cond (bytes_eq name f) true known) (ap (λ (e : Ends). is_known e f) (ap (λ (s : Stacks). s.ends) stays) ∙ spent.ends f))
    (λ text. ap (λ (rows : StackRows). calls_at rows.rows text) (ap (λ (s : Stacks). s.rows) stays) ∙ spent.calls text)) c.learn.ensures)
