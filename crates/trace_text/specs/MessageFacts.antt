-- What a message tells, by its term.
use Rattle.std.specs.Prelude.{◌≡◌, ℕ, List, Bool, Option, Some, MatchOption}
use Rattle.std.specs.Bool.{then_some}
use Rattle.std.specs.Option.{option_map}
use Rattle.trace_text.specs.declared.fact_reader.FactReader.{FactReader}
use Rattle.trace_text.specs.declared.fact_reader.MessageFacts.{MessageFacts as Told}
use Rattle.trace_text.specs.declared.sight.Kind.{Kind}
use Rattle.trace_text.specs.AnyTerm.{AnyTerm}
use Rattle.trace_text.specs.Choosing.{term_in}
use Rattle.trace_text.specs.Facts.{traced, told_function, told_name, sent_to}
use Rattle.trace_text.specs.Objects.{IsUnread, function_text}
use Rattle.trace_text.specs.Parts.{IsFifthAt, IsSeenSo}
use Rattle.trace_text.specs.Pretty.{leaf_text, IsPretty}
use Rattle.trace_text.specs.PrettyLines.{kind_word}
use Rattle.trace_text.specs.Sights.{sight}

-- the word for its kind, and the texts of the process or port that is traced, of the function that is called, returned from or
-- returned to, of the process that a message is sent to, and of the registered name that it tells
pub record Facts : Type 0 where
  pub kind : List ℕ
  pub tracee : Option (List ℕ)
  pub function : Option (List ℕ)
  pub receiver : Option (List ℕ)
  pub name : Option (List ℕ)

-- the text of the function
abbrev pub called_text : AnyTerm → Option (List ℕ)
called_text t = option_map function_text (told_function t)

abbrev pub facts_of : AnyTerm → Facts
facts_of t = record { kind = kind_word (sight t).kind; tracee = option_map leaf_text (traced t); function = called_text t; receiver = option_map leaf_text (sent_to t); name = option_map leaf_text (told_name t) }

-- those of a message; None where it isn't read
abbrev pub facts_in : List ℕ → Option Facts
facts_in bytes = option_map facts_of (term_in bytes)

-- as they are told
abbrev pub as_told : Told → Facts
as_told told = record { kind = told.kind.now; tracee = option_map (λ text. text.now) told.tracee; function = option_map (λ text. text.now) told.function; receiver = option_map (λ text. text.now) told.receiver; name = option_map (λ text. text.now) told.name }

-- the text of the term that a message is
abbrev pub IsTextOf : List ℕ → List ℕ → Type 0
IsTextOf bytes text = (t : AnyTerm) × (term_in bytes ≡ Some t) × IsPretty t text

-- it is told, or the message isn't read
abbrev pub IsTextTold : List ℕ → Option Told → Type 0
IsTextTold bytes read = MatchOption read (IsUnread bytes) (λ told. IsTextOf bytes told.text.now)

-- a reader holds what was read of a term of this kind, and the text of its function where it tells of one
pub record IsHeld (t : AnyTerm) (reader : FactReader) (kind : Option Kind) (tells : Bool) : Type 0 where
  pub is_kind : kind ≡ (sight t).kind
  pub is_seen : IsSeenSo t reader.told.seen.items reader.told.text.items
  pub fifth : IsFifthAt t reader.told.text.items reader.told.place
  pub function : then_some tells reader.function.items ≡ called_text t
