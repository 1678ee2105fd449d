use Rattle.std.proofs.Common.{rules, sym, ◌∙◌}
use Rattle.std.proofs.lemmas.Iterator.{YieldsList-from_slice}
use Rattle.std.proofs.lemmas.Iterator.Search.{any_from_yields_List}
use borrow.Author.Tests.{tests}
use Rattle.trace_text.proofs.Suiting.{list_any-map}
use Rattle.prepared_requests.specs.Names.{Holding, holding_of, is_same}
use Rattle.prepared_requests.proofs.holder.is_known.Goals as goal

pub returns : goal.returns
returns c =
    let one : Holding = record { name = c.args.name.now; process = c.args.process.now } in
    any_from_yields_List (λ holder. is_same one (holding_of holder)) _ _ c.any.result c.any.ensures.ran (YieldsList-from_slice c.args.holders.now c.iter.ensures.rest) (λ x b q k. search (rules, tests))
    ∙ sym (list_any-map (is_same one) holding_of c.args.holders.now)
