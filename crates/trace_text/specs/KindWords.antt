-- The words for kinds of messages in the order in which they are shown, and the words that a choice may have.
use Rattle.std.specs.Prelude.{ℕ, Bool, ◌||◌, ◌==◌, Option, Some, None, List, [], ◌∷◌, codes, if◌then◌else◌}
use Rattle.std.specs.List.{list_any, range_with_len, slice_get}
use Rattle.std.specs.Str.{bytes_eq}
use Rattle.trace_message.specs.declared.seen.Seen.TheVariants as events
use Rattle.trace_text.specs.declared.other_word.OtherWord.TheVariants as others
use Rattle.trace_text.specs.declared.sight.Kind.{Kind}
use Rattle.trace_text.specs.declared.sight.Kind.TheVariants.{Seen, Other, SeqTrace}
use Rattle.trace_text.specs.PrettyKinds.{kind_name}

-- the kinds of the readable listing, in the order in which they are shown
abbrev pub shown_kinds : List Kind
shown_kinds =
    Seen events.Call ∷ Seen events.Return ∷ Seen events.Exception ∷ Other others.ReturnTo ∷ Seen events.Send ∷ Seen events.SendLost ∷ Seen events.Receive
    ∷ Other others.Spawn ∷ Other others.Spawned ∷ Other others.Exit ∷ Other others.Register ∷ Other others.Unregister ∷ Other others.Link ∷ Other others.Unlink
    ∷ Other others.GettingLinked ∷ Other others.GettingUnlinked ∷ Other others.In ∷ Other others.InExiting ∷ Other others.Out ∷ Other others.OutExiting
    ∷ Other others.OutExited ∷ Other others.GcMinorStart ∷ Other others.GcMinorEnd ∷ Other others.GcMajorStart ∷ Other others.GcMajorEnd
    ∷ Other others.GcMaxHeapSize ∷ Other others.Open ∷ Other others.Closed ∷ SeqTrace ∷ []

-- after those of the readable listing `opaque`, and then `other`
abbrev pub word_or : ℕ → Option Kind → List ℕ
word_or place (Some kind) = kind_name kind
word_or place None = if place == 29 then codes "opaque" else codes "other"

-- the word for the kind that is shown at a place
abbrev pub word_at : ℕ → List ℕ
word_at place = word_or place (slice_get shown_kinds place)

-- the words for what is no message that was read: a drop record, or a part of a long message that isn't whole
abbrev pub is_no_message : List ℕ → Bool
is_no_message word = bytes_eq word (codes "drop") || bytes_eq word (codes "part")

-- a listing may have a kind of this word
abbrev pub is_kind_word : List ℕ → Bool
is_kind_word word = is_no_message word || list_any (λ place. bytes_eq (word_at place) word) (range_with_len 0 31)
