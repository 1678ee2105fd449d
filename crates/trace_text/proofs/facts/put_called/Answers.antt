use Rattle.trace_text.proofs.ObjectLines.{function_text_put}
use Rattle.trace_text.proofs.facts.put_called.Goals as goal

pub returns : goal.returns
returns c = λ f at.
    function_text_put c.args.out.now.items _ _ _ _ _ f (c.of_module.ensures f at) (c.of_name.ensures f at) c.in_ok-put_names.ensures (c.in_ok-put_arity.ensures f.arguments (c.arity.ensures f at)) c.in_ok-push.ensures.items
