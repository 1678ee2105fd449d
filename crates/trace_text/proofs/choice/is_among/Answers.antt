use Rattle.std.proofs.Common.{rules, nat_eq}
use Rattle.std.specs.Str.{bytes_eq}
use Rattle.std.proofs.lemmas.Iterator.Search.{any_from_yields_List}
use Rattle.std.proofs.lemmas.Iterator.Splits.{YieldsList-from_slice_split}
use borrow.Author.Tests.{tests}
use Rattle.trace_text.proofs.choice.is_among.Goals as goal

pub returns : goal.returns
returns c = any_from_yields_List (λ word. bytes_eq word c.args.word.now) _ _ c.any.result c.any.ensures.ran
    (YieldsList-from_slice_split _ (λ byte. nat_eq byte 44) c.args.words.now c.split.ensures.rest c.split.ensures.done c.split.ensures.closure (λ x b q k. search (rules, tests))) (λ x b q k. search (rules, tests))
