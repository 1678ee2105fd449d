use Rattle.std.proofs.Common.{rules, sym, string_bytes, ◌∙◌}
use Rattle.std.proofs.lemmas.Iterator.{YieldsList-from_slice}
use Rattle.std.proofs.lemmas.Iterator.Search.{any_from_yields_List}
use borrow.Author.Tests.{tests}
use Rattle.trace_text.specs.Choosing.{is_text}
use Rattle.trace_text.proofs.Suiting.{list_any-map}
use Rattle.prepared_requests.proofs.holder.is_asked.Goals as goal

pub returns : goal.returns
returns c =
    let name = c.args.name.now in
    any_from_yields_List (λ text. is_text 39 39 (string_bytes text) name) _ _ c.any.result c.any.ensures.ran (YieldsList-from_slice c.args.asked.now c.iter.ensures.rest) (λ x b q k. search (rules, tests))
    ∙ sym (list_any-map (λ text. is_text 39 39 text name) (λ s. string_bytes s) c.args.asked.now)
