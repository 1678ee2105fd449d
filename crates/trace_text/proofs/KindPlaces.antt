-- The word of each kind is one that a choice may have.
use Rattle.std.proofs.Common.{◌≡◌, Option, Some, None, true, refl}
use Rattle.trace_message.specs.declared.seen.Seen.{Seen as Event}
use Rattle.trace_message.specs.declared.seen.Seen.TheVariants as events
use Rattle.trace_text.specs.declared.other_word.OtherWord.{OtherWord}
use Rattle.trace_text.specs.declared.other_word.OtherWord.TheVariants as others
use Rattle.trace_text.specs.declared.sight.Kind.{Kind}
use Rattle.trace_text.specs.declared.sight.Kind.TheVariants.{Seen, Other, SeqTrace}
use Rattle.trace_text.specs.KindWords.{is_kind_word}
use Rattle.trace_text.specs.PlainLines.{kind_text}
use Rattle.trace_text.specs.PrettyLines.{kind_word}
use Rattle.trace_text.specs.PrettyWords.{other_text}

seen_is_word : (event : Event) → is_kind_word (kind_text event) ≡ true
seen_is_word events.Call = refl
seen_is_word _ = refl

other_is_word : (word : OtherWord) → is_kind_word (other_text word) ≡ true
other_is_word others.ReturnTo = refl
other_is_word _ = refl

pub kind_is_word : (kind : Option Kind) → is_kind_word (kind_word kind) ≡ true
kind_is_word None = refl
kind_is_word (Some (Seen event)) = seen_is_word event
kind_is_word (Some (Other word)) = other_is_word word
kind_is_word (Some SeqTrace) = refl
