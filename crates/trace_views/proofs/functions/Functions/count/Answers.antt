use Rattle.std.proofs.Common.{ap, sym, ◌∙◌, option_map}
use Rattle.std.proofs.lemmas.Result.{on_ok_weaker}
use Rattle.trace_text.specs.MessageFacts.{as_told}
use Rattle.trace_views.proofs.CountLemmas.{functions_counted}
use Rattle.trace_views.proofs.functions.Functions.count.Goals as goal

pub returns : goal.returns
returns c told before =
    on_ok_weaker c.count_one.result (λ (put, puts, is). functions_counted c.args.self.now.rows c.count_one.new.self.rows told (as_told c.args.facts.now)
    c.in-Some.function.now put (ap (option_map (λ text. text.now)) c.in-Some.is) (sym c.is_of_functions.ensures ∙ c.if-not-is_of_functions.false) puts is before) c.count_one.ensures
