use Rattle.std.proofs.Common.{◌∙◌, ap}
use Rattle.std.proofs.lemmas.Result.{on_ok_weaker}
use Rattle.trace_views.specs.declared.stack_rows.StackRows.{StackRows}
use Rattle.trace_views.specs.declared.stacks.Stacks.{Stacks}
use Rattle.trace_views.specs.Stacks.{calls_at}
use Rattle.trace_views.proofs.StackLemmas.{folded_still}
use Rattle.trace_views.proofs.stacks.Stacks.spend.Goals as goal

pub returns : goal.returns
returns c before acts was =
    let stays = c.put_text.ensures.stays in
    on_ok_weaker c.spend.result (λ calls. folded_still before acts c.args.self.now _ was (ap (λ (s : Stacks). s.opens) stays) (ap (λ (s : Stacks). s.ends) stays)
    (λ text. calls text ∙ ap (λ (rows : StackRows). calls_at rows.rows text) (ap (λ (s : Stacks). s.rows) stays))) c.spend.ensures.calls
