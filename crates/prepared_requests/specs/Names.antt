-- Processes by the names under which a trace tells them to be registered.
use Rattle.std.specs.Prelude.{◌≡◌, refl, ℕ, Bool, true, not, ◌==◌, ◌&&◌, ◌||◌, nat_lt, map, Option, Some, None, List, [], ◌∷◌, ◌++◌, length, codes, string_bytes, fold, if◌then◌else◌}
use Rattle.std.specs.Coded.{Coded, Coded-set, code_by, coded_ℕ, coded_list, coded×, →_prop}
use Rattle.std.specs.List.{list_any, flat_map}
use Rattle.std.specs.Str.{bytes_eq}
use Rattle.std.specs.Str.Lossy.{utf8_lossy}
use Rattle.entry_codec.specs.Entries.{Entry, Message, Drop}
use Rattle.trace_text.specs.Choosing.{Asked, Asks, is_text}
use Rattle.trace_text.specs.MessageFacts.{Facts, facts_in}
use Rattle.prepared_requests.specs.declared.holder.Holder.{Holder}
use Rattle.prepared_requests.specs.declared.holder.TheConstants.{LONGEST}

-- it isn't too long, and no point stands in it, or behind its last quote: it is no process by its numbers, and no port
abbrev pub is_name : List ℕ → Bool
is_name text = nat_lt (length text) LONGEST && fold (λ (is : Bool) (byte : ℕ). byte == 39 || (is && not (byte == 46))) true text

-- a name is one of those that are asked for, with or without its quotes
abbrev pub is_asked : List (List ℕ) → List ℕ → Bool
is_asked asked name = list_any (λ text. is_text 39 39 text name) asked

-- that a process was registered under a name
pub record Holding : Type 0 where
  pub name : List ℕ
  pub process : List ℕ

abbrev pub holding_of : Holder → Holding
holding_of holder = record { name = holder.name.items; process = string_bytes holder.process }

-- the same, where the name is asked for
abbrev pub holding_by : List (List ℕ) → Option (List ℕ) → Option (List ℕ) → Option Holding
holding_by asked (Some name) (Some process) = if is_asked asked name then Some (record { name = name; process = utf8_lossy process }) else None
holding_by asked name process = None

-- what a message tells of that
abbrev pub holding_told : List (List ℕ) → Option Facts → Option Holding
holding_told asked None = None
holding_told asked (Some facts) = if bytes_eq facts.kind (codes "register") then holding_by asked facts.name facts.tracee else None

-- what an entry does
abbrev pub holding_in : List (List ℕ) → Entry → Option Holding
holding_in asked (Message bytes) = holding_told asked (facts_in bytes)
holding_in asked (Drop count) = None

abbrev pub is_same : Holding → Holding → Bool
is_same a b = bytes_eq b.name a.name && bytes_eq b.process a.process

-- with one more, where it isn't among them
abbrev pub with_one : List Holding → Holding → List Holding
with_one known more = if list_any (is_same more) known then known else known ++ more ∷ []

abbrev pub with_holding : List Holding → Option Holding → List Holding
with_holding known None = known
with_holding known (Some more) = with_one known more

-- what entries tell
abbrev pub holdings_in : List (List ℕ) → List Entry → List Holding
holdings_in asked entries = fold (λ (known : List Holding) (entry : Entry). with_holding known (holding_in asked entry)) [] entries

-- the process, where it had this name
abbrev pub process_of : List ℕ → Holding → List (List ℕ)
process_of name one = if is_text 39 39 name one.name then one.process ∷ [] else []

-- those that had it
abbrev pub processes_of : List Holding → List ℕ → List (List ℕ)
processes_of known name = flat_map (process_of name) known

abbrev pub or_itself : List ℕ → List (List ℕ) → List (List ℕ)
or_itself text [] = text ∷ []
or_itself text found = found

-- the processes that a text means: those that had it as their name, and where it is no name or nobody had it, what it says itself
abbrev pub meant_by : List Holding → List ℕ → List (List ℕ)
meant_by known text = if is_name text then or_itself text (processes_of known text) else text ∷ []

-- a choice with these in the place of its processes
abbrev pub filter_meant : List Holding → Asked → Asked
filter_meant known asked = record { kinds = asked.kinds; pids = flat_map (meant_by known) asked.pids; functions = asked.functions }

abbrev pub choice_meant : List Holding → Asks → Asks
choice_meant known asks = record { from = asks.from; to = asks.to; is_whole = asks.is_whole; only = filter_meant known asks.only; not = filter_meant known asks.not }

-- the names in it
abbrev pub name_in : List ℕ → List (List ℕ)
name_in text = if is_name text then text ∷ [] else []

abbrev pub names_in : Asks → List (List ℕ)
names_in asks = flat_map name_in asks.only.pids ++ flat_map name_in asks.not.pids

abbrev pub has_names : Asks → Bool
has_names asks = list_any is_name asks.only.pids || list_any is_name asks.not.pids

-- names, as entries that are seen before those of a trace
abbrev pub as_entries : List (List ℕ) → List Entry
as_entries names = map (λ (name : List ℕ). Message name) names

-- unless memory was wanting, so much was told of the names that are asked for
abbrev pub AreTold : {F : Type 0} → Option F → List (List ℕ) → List Holding → List Entry → Type 0
AreTold fault asked known entries = fault ≡ None → known ≡ holdings_in asked entries

abbrev coded_holding : Coded Holding
coded_holding = code_by (List ℕ × List ℕ) (coded× (coded_list coded_ℕ) (coded_list coded_ℕ)) (λ one. (one.name, one.process)) (λ p. record { name = p.0; process = p.1 }) (λ _. refl)

pub AreTold-prop : {F : Type 0} (fault : Option F) (asked : List (List ℕ)) (known : List Holding) (entries : List Entry) → IsProp (AreTold fault asked known entries)
AreTold-prop fault asked known entries = →_prop (Coded-set (coded_list coded_holding) known (holdings_in asked entries))
