use Rattle.std.proofs.Common.{rules, ap, sym, ◌∙◌, ◌||◌, refl, Bool}
use Rattle.std.specs.List.{list_any, range_with_len}
use Rattle.std.specs.Str.{bytes_eq}
use Rattle.std.proofs.lemmas.Iterator.{YieldsList-from_range}
use Rattle.std.proofs.lemmas.Iterator.Search.{any_from_yields_List}
use borrow.Author.Tests.{tests}
use Rattle.trace_text.specs.KindWords.{word_at, is_kind_word}
use Rattle.trace_text.proofs.KindPlaces.{kind_is_word}
use Rattle.trace_text.proofs.kinds.is_kind.Goals as goal

pub returns-else-is_no_message-clause-is : goal.returns-else-is_no_message-clause-is
returns-else-is_no_message-clause-is c =
    any_from_yields_List (λ place. bytes_eq (word_at place) c.args.word.now) _ _ c.any.result c.any.ensures.ran (YieldsList-from_range 0 31 31 refl refl) (λ x b q k. search (rules, tests))
    ∙ sym (ap (λ (b : Bool). b || list_any (λ place. bytes_eq (word_at place) c.args.word.now) (range_with_len 0 31)) (sym c.is_no_message.ensures ∙ c.if-is_no_message.false))

pub returns-else-is_no_message-clause-each : goal.returns-else-is_no_message-clause-each
returns-else-is_no_message-clause-each c = λ kind same. returns-else-is_no_message-clause-is c ∙ ap is_kind_word same ∙ kind_is_word kind
