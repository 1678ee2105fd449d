use Rattle.std.proofs.Common.{rules, sym, string_bytes, ◌∙◌}
use Rattle.std.proofs.lemmas.Iterator.{YieldsList-from_slice}
use Rattle.std.proofs.lemmas.Iterator.Search.{any_from_yields_List}
use borrow.Author.Tests.{tests}
use Rattle.trace_text.proofs.Suiting.{list_any-map}
use Rattle.prepared_requests.specs.Names.{is_name}
use Rattle.prepared_requests.proofs.names.has_name.Goals as goal

pub returns : goal.returns
returns c =
    any_from_yields_List (λ text. is_name (string_bytes text)) _ _ c.any.result c.any.ensures.ran (YieldsList-from_slice c.args.texts.now c.iter.ensures.rest) (λ x b q k. search (rules, tests))
    ∙ sym (list_any-map is_name (λ s. string_bytes s) c.args.texts.now)
