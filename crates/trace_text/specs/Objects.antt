-- Objects of entries and their texts, by the grammar of JSON that the kit has.
use Rattle.std.specs.Prelude.{ℕ, ◌<◌, ◌≤◌, ◌^◌, Bool, ◌||◌, ◌==◌, ◌⊎◌, Option, Some, None, List, [], ◌∷◌, ◌++◌, length, codes, if◌then◌else◌}
use Rattle.std.specs.Fmt.{decimal}
use Rattle.std.specs.Option.{option_map, option_and_then}
use Rattle.std.specs.Str.{bytes_eq}
use Rattle.json.specs.Json as json
use Rattle.json.specs.Print.{quoted}
use Rattle.entry_codec.specs.Entries.{Entry, Message, Drop}
use Rattle.trace_text.specs.AnyTerm.{AnyTerm}
use Rattle.trace_text.specs.Choosing.{term_in}
use Rattle.trace_text.specs.Facts.{Function, traced, function_of, arity_told}
use Rattle.trace_text.specs.Pretty.{leaf_text, IsPretty}
use Rattle.trace_text.specs.PrettyKinds.{IsPrettyKind}
use Rattle.trace_text.specs.PrettyLines.{longest_message, IsOpaqueAny}
use Rattle.trace_text.specs.SpellsAny.{SpellsAny}

-- ---- members and their texts

pub data Value : Type 0 where
  number : ℕ → Value
  text : List ℕ → Value

pub record Member : Type 0 where
  pub name : List ℕ
  pub value : Value

abbrev pub of_number : List ℕ → ℕ → Member
of_number name n = record { name = name; value = number n }

abbrev pub of_text : List ℕ → List ℕ → Member
of_text name bytes = record { name = name; value = text bytes }

-- a text where there is one
abbrev pub of_some : List ℕ → Option (List ℕ) → List Member
of_some name None = []
of_some name (Some bytes) = of_text name bytes ∷ []

-- a value, of which a number is in decimal
abbrev pub value_of : Value → json.Json
value_of (number n) = json.number (decimal n)
value_of (text bytes) = json.string bytes

abbrev pub members_as : List Member → json.Members
members_as [] = json.no_members
members_as (member ∷ members) = json.member member.name (value_of member.value) (members_as members)

abbrev pub value_text : Value → List ℕ
value_text (number n) = decimal n
value_text (text bytes) = quoted bytes

-- a name, a colon and a value
abbrev pub member_text : Member → List ℕ
member_text member = (quoted member.name ++ 58 ∷ []) ++ value_text member.value

-- members after another, each after a comma
abbrev pub more_text : List Member → List ℕ
more_text [] = []
more_text (member ∷ members) = 44 ∷ (member_text member ++ more_text members)

abbrev pub members_text : List Member → List ℕ
members_text [] = []
members_text (member ∷ members) = member_text member ++ more_text members

-- the text of an object, without blanks
unfoldable pub object_text : List Member → List ℕ
object_text members = 123 ∷ (members_text members ++ 125 ∷ [])

-- an object and a line feed
unfoldable pub object_line : List Member → List ℕ
object_line members = object_text members ++ 10 ∷ []

-- a number is below 2^64
abbrev pub IsSmall : Value → Type 0
IsSmall (number n) = n < 2 ^ 64
IsSmall (text bytes) = Unit {0}

-- and so is each of these members'
abbrev pub AreSmall : List Member → Type 0
AreSmall [] = Unit {0}
AreSmall (member ∷ members) = IsSmall member.value × AreSmall members

-- ---- entries

-- a message is read: it is one spelling of a term and nothing more, and this is the word for its kind and the text of the term
abbrev pub IsRead : List ℕ → List ℕ → List ℕ → Type 0
IsRead bytes kind shown = (t : AnyTerm) × (length bytes ≤ longest_message) × SpellsAny t bytes × IsPrettyKind t kind × IsPretty t shown

-- it isn't
abbrev pub IsUnread : List ℕ → Type 0
IsUnread bytes = IsOpaqueAny bytes ⊎ (longest_message < length bytes)

abbrev pub arity_text : Option (List ℕ) → List ℕ
arity_text None = []
arity_text (Some told) = codes "/" ++ told

-- the text of an integer tells a number of arguments unless it has a sign
abbrev pub unsigned_told : List ℕ → Option (List ℕ)
unsigned_told [] = Some []
unsigned_told (byte ∷ bytes) = if byte == 45 then None else Some (byte ∷ bytes)

-- M:F/A, or M:F where it isn't told how many arguments there are
abbrev pub function_text : Function → List ℕ
function_text f = leaf_text f.of_module ++ codes ":" ++ leaf_text f.of_name ++ arity_text (arity_told f.arguments)

-- the words for kinds that tell of a function
abbrev pub is_of_call : List ℕ → Bool
is_of_call kind = bytes_eq kind (codes "call") || (bytes_eq kind (codes "return") || bytes_eq kind (codes "exception"))

abbrev pub function_if : Bool → Option AnyTerm → Option (List ℕ)
function_if tells term = if tells then option_map function_text (option_and_then function_of term) else None

-- what the term of a message of this kind tells of: the process or the port, and the function that is called or returned from
abbrev pub facts_of : List ℕ → Option AnyTerm → List Member
facts_of kind term = of_some (codes "pid") (option_map leaf_text (option_and_then traced term)) ++ of_some (codes "mfa") (function_if (is_of_call kind) term)

-- a message that is read
abbrev pub message_members : ℕ → List ℕ → List ℕ → List ℕ → List Member
message_members n kind bytes shown = of_number (codes "n") n ∷ of_text (codes "kind") kind ∷ (facts_of kind (term_in bytes) ++ of_text (codes "text") shown ∷ [])

-- an entry of this kind that tells nothing but a number of this name
abbrev pub number_members : ℕ → List ℕ → List ℕ → ℕ → List Member
number_members n kind name count = of_number (codes "n") n ∷ of_text (codes "kind") kind ∷ of_number name count ∷ []

-- a message of so many bytes that isn't read
abbrev pub opaque_members : ℕ → ℕ → List Member
opaque_members n size = number_members n (codes "opaque") (codes "size") size

-- so many lost messages
abbrev pub drop_members : ℕ → ℕ → List Member
drop_members n count = number_members n (codes "drop") (codes "count") count

-- entries that aren't there, and messages that were lost there
abbrev pub counts_members : List ℕ → ℕ → ℕ → List Member
counts_members kind entries lost = of_text (codes "kind") kind ∷ of_number (codes "entries") entries ∷ of_number (codes "dropped") lost ∷ []

-- the last object
abbrev pub end_members : List Member
end_members = of_text (codes "kind") (codes "end_of_trace") ∷ []

-- the members of the object of the entry of this number, in their order
pub data IsObject (n : ℕ) : Entry → List Member → Type 0 where
  of_read : (bytes kind shown : List ℕ) → IsRead bytes kind shown → IsObject n (Message bytes) (message_members n kind bytes shown)
  of_unread : (bytes : List ℕ) → IsUnread bytes → IsObject n (Message bytes) (opaque_members n (length bytes))
  of_drop : (count : ℕ) → IsObject n (Drop count) (drop_members n count)

-- how many bytes a message has, or how many messages were lost, is below 2^64
abbrev pub HasSmallCount : Entry → Type 0
HasSmallCount (Message bytes) = length bytes < 2 ^ 64
HasSmallCount (Drop count) = count < 2 ^ 64
