-- Which entries a choice asks for.
use Rattle.std.specs.Prelude.{ℕ, Bool, true, false, not, map, ◌&&◌, ◌||◌, Option, Some, None, List, [], ◌∷◌, ◌++◌, ◌==◌, nat_le, length, drop, codes, is_none, string_bytes, Result, Ok, Err, if◌then◌else◌}
use Rattle.std.specs.Fmt.{decimal}
use Rattle.std.specs.List.{slice_split, list_any}
use Rattle.std.specs.Option.{option_map}
use Rattle.std.specs.Str.{bytes_eq}
use Rattle.ext_format.specs.declared.fault.DecodeFault.{DecodeFault}
use Rattle.entry_codec.specs.Entries.{Entry, Message, Drop}
use Rattle.trace_text.specs.declared.choice.Choice.{Choice}
use Rattle.trace_text.specs.declared.choice.Filter.{Filter}
use Rattle.trace_text.specs.declared.choice.FunctionAsked.{FunctionAsked}
use Rattle.trace_text.specs.AnyTerm.{Leaf, AnyTerm}
use Rattle.trace_text.specs.AnyReading.{any_whole_at}
use Rattle.trace_text.specs.Facts.{Function, traced, arity_told, called}
use Rattle.trace_text.specs.Pretty.{leaf_text}
use Rattle.trace_text.specs.PrettyLines.{kind_word, longest_message}
use Rattle.trace_text.specs.Sights.{sight}

-- a function by its module, and by its name and the number of its arguments, where these are asked for
pub record AskedFunction : Type 0 where
  pub of_module : List ℕ
  pub of_name : Option (List ℕ)
  pub of_arity : Option ℕ

-- words for kinds with commas between them, where there are some, traced processes and functions
pub record Asked : Type 0 where
  pub kinds : Option (List ℕ)
  pub pids : List (List ℕ)
  pub functions : List AskedFunction

-- the numbers of the first and of the last entry, where they are asked for, whether a listing is read on behind that, what alone is asked for, and what isn't
pub record Asks : Type 0 where
  pub from : Option ℕ
  pub to : Option ℕ
  pub is_whole : Bool
  pub only : Asked
  pub not : Asked

abbrev pub function_asked : FunctionAsked → AskedFunction
function_asked f = record { of_module = string_bytes f.module; of_name = option_map string_bytes f.name; of_arity = f.arity }

abbrev pub asked_of : Filter → Asked
asked_of filter = record {
  kinds = option_map string_bytes filter.kinds;
  pids = map string_bytes filter.pids.items;
  functions = map function_asked filter.functions.items;
}

abbrev pub asks_of : Choice → Asks
asks_of choice = record { from = choice.from; to = choice.to; is_whole = choice.is_whole; only = asked_of choice.only; not = asked_of choice.not }

-- no kind, process or function is named
abbrev pub names_nothing : Asked → Bool
names_nothing asked = is_none asked.kinds && (length asked.pids == 0 && length asked.functions == 0)

-- nothing that is asked for, or isn't, is a text
abbrev pub asks_no_text : Asks → Bool
asks_no_text asks = names_nothing asks.only && names_nothing asks.not

-- nothing is asked for
abbrev pub asks_nothing : Asks → Bool
asks_nothing asks = asks_no_text asks && (is_none asks.from && is_none asks.to)

-- ---- numbers

-- the number isn't below the first that is asked for
abbrev pub is_from : Option ℕ → ℕ → Bool
is_from None number = true
is_from (Some first) number = nat_le first number

-- nor above the last
abbrev pub is_to : Option ℕ → ℕ → Bool
is_to None number = true
is_to (Some last) number = nat_le number last

-- this is the number of the last entry that is asked for, or a greater one
abbrev pub is_at_end : Option ℕ → ℕ → Bool
is_at_end None number = false
is_at_end (Some last) number = nat_le last number

-- a listing ends behind such an entry, unless it is to be whole
abbrev pub ends : Asks → ℕ → Bool
ends asks number = not asks.is_whole && is_at_end asks.to number

-- ---- messages

-- it is one of the words that have commas between them
abbrev pub has_word : List ℕ → List ℕ → Bool
has_word words kind = list_any (λ word. bytes_eq word kind) (slice_split (λ byte. byte == 44) words)

-- the kind of this word is named
abbrev pub names_kind : Option (List ℕ) → List ℕ → Bool
names_kind None kind = false
names_kind (Some words) kind = has_word words kind

-- the text is this one, or this one between two signs
abbrev pub is_text : ℕ → ℕ → List ℕ → List ℕ → Bool
is_text opening closing asked shown = bytes_eq shown asked || bytes_eq shown (opening ∷ (asked ++ closing ∷ []))

-- such a byte is in it
abbrev pub has_byte : ℕ → List ℕ → Bool
has_byte byte text = list_any (λ x. x == byte) text

-- what stands before the last such byte; nothing where there is none
abbrev pub before_last : ℕ → List ℕ → List ℕ
before_last byte [] = []
before_last byte (x ∷ xs) = if has_byte byte xs then x ∷ before_last byte xs else []

-- what stands between two signs, of a text that begins with the first of them; any other text as it is
abbrev pub inside : ℕ → ℕ → List ℕ → List ℕ
inside opening closing [] = []
inside opening closing (x ∷ xs) = if x == opening then before_last closing xs else x ∷ xs

-- the texts by which the process NODE.ID.SERIAL.CREATION is asked for beside that one: with its creation and without, NODE with its quotes and without, and 0.ID.SERIAL
abbrev pub names_by : (node whole short : List ℕ) → List (List ℕ)
names_by node whole short =
    short ∷ (inside 39 39 node ++ drop (length node) whole) ∷ (inside 39 39 node ++ drop (length node) short) ∷ (48 ∷ drop (length node) short) ∷ []

-- by where the last points stand
abbrev pub names_of : List ℕ → List (List ℕ)
names_of whole = names_by (before_last 46 (before_last 46 (before_last 46 whole))) whole (before_last 46 whole)

-- the text that a listing has for a process or a port is this one, with or without angle brackets, or this one but for a creation; or it is a process of such a name, in angle brackets or not
abbrev pub is_named : List ℕ → List ℕ → Bool
is_named asked shown =
    is_text 60 62 asked shown || (bytes_eq asked (before_last 46 shown ++ 62 ∷ []) || list_any (λ name. bytes_eq (inside 60 62 asked) name) (names_of (inside 60 62 shown)))

-- the process or port is one of those that are asked for
abbrev pub is_one_traced : List (List ℕ) → Option Leaf → Bool
is_one_traced pids None = false
is_one_traced pids (Some who) = list_any (λ asked. is_named asked (leaf_text who)) pids

-- the atom is the one that a listing shows so, with or without its quotes, where one is asked for
abbrev pub is_shown : Option (List ℕ) → List ℕ → Bool
is_shown None shown = true
is_shown (Some asked) shown = is_text 39 39 asked shown

-- the number of arguments is told so
abbrev pub is_count : ℕ → Option (List ℕ) → Bool
is_count asked None = false
is_count asked (Some told) = bytes_eq told (decimal asked)

abbrev pub is_of_arity : Option ℕ → AnyTerm → Bool
is_of_arity None arguments = true
is_of_arity (Some asked) arguments = is_count asked (arity_told arguments)

-- the function has this module, and this name and number of arguments, where these are asked for
abbrev pub is_function : AskedFunction → Function → Bool
is_function asked f = is_text 39 39 asked.of_module (leaf_text f.of_module) && (is_shown asked.of_name (leaf_text f.of_name) && is_of_arity asked.of_arity f.arguments)

-- one of the functions is told of
abbrev pub is_one_called : List AskedFunction → Option Function → Bool
is_one_called functions None = false
is_one_called functions (Some f) = list_any (λ asked. is_function asked f) functions

-- where kinds are named, this is one; where processes are, it is of one; where functions are, of one
abbrev pub is_of_kinds : Option (List ℕ) → List ℕ → Bool
is_of_kinds kinds kind = is_none kinds || names_kind kinds kind

abbrev pub is_of_pids : List (List ℕ) → AnyTerm → Bool
is_of_pids pids t = length pids == 0 || is_one_traced pids (traced t)

abbrev pub is_of_functions : List AskedFunction → AnyTerm → Bool
is_of_functions functions t = length functions == 0 || is_one_called functions (called t)

-- the message is of one of those that are named of each
abbrev pub is_of_each : Asked → AnyTerm → Bool
is_of_each asked t = is_of_kinds asked.kinds (kind_word (sight t).kind) && (is_of_pids asked.pids t && is_of_functions asked.functions t)

-- it is of one of the kinds, or of one of the processes, or of one of the functions
abbrev pub is_of_any : Asked → AnyTerm → Bool
is_of_any asked t = names_kind asked.kinds (kind_word (sight t).kind) || (is_one_traced asked.pids (traced t) || is_one_called asked.functions (called t))

-- what is asked of a message holds of its term
abbrev pub suits : Asks → AnyTerm → Bool
suits asks t = is_of_each asks.only t && not (is_of_any asks.not t)

-- of a message that isn't read nothing is told but that
abbrev pub suits_opaque : Asks → Bool
suits_opaque asks =
    is_of_kinds asks.only.kinds (codes "opaque") && (length asks.only.pids == 0 && (length asks.only.functions == 0 && not (names_kind asks.not.kinds (codes "opaque"))))

-- parts of long messages are named by their own word, or with what isn't read
abbrev pub names_part : Option (List ℕ) → Bool
names_part kinds = names_kind kinds (codes "part") || names_kind kinds (codes "opaque")

-- nor is more told of a part of a message that isn't whole
abbrev pub suits_part : Asks → Bool
suits_part asks =
    (is_none asks.only.kinds || names_part asks.only.kinds) && (length asks.only.pids == 0 && (length asks.only.functions == 0 && not (names_part asks.not.kinds)))

-- what was read, where it takes so many bytes
abbrev pub if_all : Result (AnyTerm × ℕ) DecodeFault → ℕ → Option AnyTerm
if_all (Ok read) size = if read.1 == size then Some read.0 else None
if_all (Err fault) size = None

-- the term of which a message is one spelling and nothing more, where it isn't too long to be read
unfoldable pub term_in : List ℕ → Option AnyTerm
term_in bytes = if nat_le (length bytes) longest_message then if_all (any_whole_at bytes) (length bytes) else None

abbrev pub suits_if : Asks → Option AnyTerm → Bool
suits_if asks None = suits_opaque asks
suits_if asks (Some t) = suits asks t

-- the entry of this number is asked for; a drop record is, unless it comes after the last
abbrev pub chooses : Asks → ℕ → Entry → Bool
chooses asks number (Message bytes) = is_to asks.to number && (is_from asks.from number && suits_if asks (term_in bytes))
chooses asks number (Drop count) = is_to asks.to number
