use Rattle.std.proofs.lemmas.Result.{on_ok_weaker}
use Rattle.trace_text.proofs.FactTelling.{function_put}
use Rattle.trace_text.proofs.fact_reader.put_function_text.Goals as goal

pub returns : goal.returns
returns c = λ f at.
    on_ok_weaker c.put_arity_text.result
    (function_put c.args.out.now.items _ _ _ _ _ _ f (c.of_module.ensures f at) (c.of_name.ensures f at) c.in_ok-extend_from_slice.ensures.items c.in_ok-push.ensures.items c.in_ok-extend_from_slice-2.ensures.items)
    (c.put_arity_text.ensures f.arguments (c.arity.ensures f at))
