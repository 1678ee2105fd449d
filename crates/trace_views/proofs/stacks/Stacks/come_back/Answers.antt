use Rattle.std.proofs.Common.{◌∙◌, ap, refl, subst, sym}
use Rattle.trace_views.specs.declared.ends.Ends.{Ends}
use Rattle.trace_views.specs.declared.stack_rows.StackRows.{StackRows}
use Rattle.trace_views.specs.declared.stacks.Stacks.{Stacks}
use Rattle.trace_views.specs.Stacks.{ReturnsTo, calls_at, folding, is_known}
use Rattle.trace_views.proofs.StackLemmas.{Follows, folded_so, follows-back, follows-going_on, follows_so}
use Rattle.trace_views.proofs.stacks.Stacks.come_back.Goals as goal

pub returns : goal.returns
returns c before acts was =
    let process = c.args.process.now in
    let spent = c.in_ok-spend.ensures before acts was in
    let told = folding before acts in
    let stays = c.put_left.ensures.stays in
    let name = c.put_left.new.self.left.items in
    let had : Follows c.put_left.new.self.opens told = subst (λ o. Follows o told) (sym (ap (λ (s : Stacks). s.opens) stays)) (follows_so before acts c.spend.new.self spent) in
    let back = follows-back c.put_left.new.self.opens c.back_to.new.self told process name c.back_to.ensures had in
    let follows = follows-going_on c.back_to.new.self c.resume.new.self _ process c.args.time c.resume.ensures back in
    rw (← c.in_ok-put_left.ensures.left) (folded_so before acts (ReturnsTo process name) _ _ refl follows
    (λ f. ap (λ (e : Ends). is_known e f) (ap (λ (s : Stacks). s.ends) stays) ∙ spent.ends f)
    (λ text. ap (λ (rows : StackRows). calls_at rows.rows text) (ap (λ (s : Stacks). s.rows) stays) ∙ spent.calls text))
