-- What is counted of the messages of a trace.
use Rattle.std.specs.Prelude.{ℕ, ◌+◌, ◌-◌, max, Bool, true, false, ◌&&◌, ◌||◌, ◌==◌, Option, Some, None, List, [], ◌∷◌, ◌++◌, map, count_by, fold, sum_by, codes, nat_lt, if◌then◌else◌}
use Rattle.std.specs.Bool.{then_some}
use Rattle.std.specs.Map.{update}
use Rattle.std.specs.Option.{unwrap_or}
use Rattle.std.specs.Str.{bytes_eq}
use Rattle.entry_codec.specs.Entries.{Entry, Message, Drop}
use Rattle.trace_text.specs.MessageFacts.{Facts, facts_in, as_told}
use Rattle.trace_text.specs.declared.fact_reader.MessageFacts.{MessageFacts as TheFacts}

-- what an entry tells: what its message does, that its message isn't read, or how many messages were lost
pub data Telling : Type 0 where
  Read : Facts → Telling
  Unread : Telling
  Lost : ℕ → Telling

abbrev pub read_or_not : Option Facts → Telling
read_or_not None = Unread
read_or_not (Some facts) = Read facts

abbrev pub telling_of : Entry → Telling
telling_of (Message bytes) = read_or_not (facts_in bytes)
telling_of (Drop count) = Lost count

-- what each entry tells
abbrev pub tellings : List Entry → List Telling
tellings entries = map telling_of entries

-- whether it is a message that is read and passes the test
abbrev pub passes : (Facts → Bool) → Telling → Bool
passes test (Read facts) = test facts
passes test telling = false

abbrev pub is_message : Telling → Bool
is_message (Lost count) = false
is_message telling = true

abbrev pub is_unread : Telling → Bool
is_unread Unread = true
is_unread telling = false

abbrev pub lost_by : Telling → ℕ
lost_by (Lost count) = count
lost_by telling = 0

-- with one message more, which is read and tells this
abbrev pub with_read : List Telling → TheFacts → List Telling
with_read told facts = told ++ (Read (as_told facts) ∷ [])

-- how many messages pass the test
abbrev pub how_many : (Facts → Bool) → List Telling → ℕ
how_many test told = count_by (passes test) told

-- how many messages there are
abbrev pub messages : List Telling → ℕ
messages told = count_by is_message told

-- how many of them aren't read
abbrev pub unread : List Telling → ℕ
unread told = count_by is_unread told

-- how many messages were lost
abbrev pub lost : List Telling → ℕ
lost told = sum_by lost_by told

-- whether this text is told
abbrev pub is_told : List ℕ → Option (List ℕ) → Bool
is_told text None = false
is_told text (Some told) = bytes_eq told text

-- whether a message is of this kind, by the kind's word
abbrev pub is_of : List ℕ → Facts → Bool
is_of word facts = bytes_eq facts.kind word

-- whether it is sent to a process, or to one that isn't there
abbrev pub is_sent : Facts → Bool
is_sent facts = is_of (codes "send") facts || is_of (codes "send_lost") facts

-- whether it tells of this function, and passes the test
abbrev pub tells : List ℕ → (Facts → Bool) → Facts → Bool
tells function test facts = is_told function facts.function && test facts

-- whether it tells of this process, and passes the test
abbrev pub does : List ℕ → (Facts → Bool) → Facts → Bool
does process test facts = is_told process facts.tracee && test facts

-- ---- registered names

-- the process that has a name, as far as that is told
abbrev pub Holders : Type 0
Holders = List ℕ → Option (List ℕ)

-- the name that a process gets by a message, or that none has any more
abbrev pub changed_name : Facts → Option (List ℕ)
changed_name facts = if is_of (codes "register") facts || is_of (codes "unregister") facts then facts.name else None

-- who has it then
abbrev pub holder_after : Facts → Option (List ℕ)
holder_after facts = if is_of (codes "register") facts then facts.tracee else None

abbrev pub with_holder : Option (List ℕ) → Option (List ℕ) → Holders → Holders
with_holder None holder holders = holders
with_holder (Some name) holder holders = update bytes_eq holders name holder

abbrev pub holders_with : Holders → Telling → Holders
holders_with holders (Read facts) = with_holder (changed_name facts) (holder_after facts) holders
holders_with holders telling = holders

-- who a message is for that is sent to a name: the process that has it, or the name itself where none is told to have it
abbrev pub by_name : Holders → Option (List ℕ) → Option (List ℕ)
by_name holders None = None
by_name holders (Some name) = Some (unwrap_or (holders name) name)

abbrev pub to_one : Option (List ℕ) → Option (List ℕ) → Option (List ℕ)
to_one None named = named
to_one (Some process) named = Some process

-- who a message is sent to
abbrev pub to_whom : Holders → Facts → Option (List ℕ)
to_whom holders facts = to_one facts.receiver (by_name holders (if is_of (codes "send") facts then facts.name else None))

-- whether it is sent to this one
abbrev pub is_to : Holders → List ℕ → Facts → Bool
is_to holders process facts = is_told process (to_whom holders facts)

-- ---- messages that wait

-- how many wait for a process, and the most that ever did
pub record Waiting : Type 0 where
  pub now : ℕ
  pub most : ℕ

abbrev pub none_waits : Waiting
none_waits = record { now = 0; most = 0 }

-- one is sent to it
abbrev pub one_comes : Waiting → Waiting
one_comes waiting = record { now = waiting.now + 1; most = max waiting.most (waiting.now + 1) }

-- it receives one; where none waits, none does after that
abbrev pub one_goes : Waiting → Waiting
one_goes waiting = record waiting { now = waiting.now - 1 }

abbrev pub comes_if : Bool → Waiting → Waiting
comes_if comes waiting = if comes then one_comes waiting else waiting

abbrev pub goes_if : Bool → Waiting → Waiting
goes_if goes waiting = if goes then one_goes waiting else waiting

-- an entry tells one or the other, or neither
abbrev pub waits_after : Holders → List ℕ → Waiting → Telling → Waiting
waits_after holders process waiting telling = comes_if (passes (is_to holders process) telling) (goes_if (passes (does process (is_of (codes "receive"))) telling) waiting)

-- who has each name, and the messages that wait for each process, and for each name that none is told to have
pub record Mail : Type 0 where
  pub holders : Holders
  pub waiting : List ℕ → Waiting

abbrev pub no_mail : Mail
no_mail = record { holders = λ _. None; waiting = λ _. none_waits }

abbrev pub mail_after : Mail → Telling → Mail
mail_after before telling = record { holders = holders_with before.holders telling; waiting = λ process. waits_after before.holders process (before.waiting process) telling }

-- behind all entries
abbrev pub mail : List Telling → Mail
mail told = fold mail_after no_mail told

abbrev pub waiting_for : List ℕ → List Telling → Waiting
waiting_for process told = (mail told).waiting process

-- whether a text is of a process or a port, and not of a name
abbrev pub is_process : List ℕ → Bool
is_process [] = false
is_process (byte ∷ bytes) = byte == 60 || byte == 35

-- the most that waited for a process, where any was sent to it; of a name, and of one to which none is told to be sent, it isn't known
abbrev pub known_waiting : List ℕ → ℕ → Option ℕ
known_waiting text most = then_some (is_process text && nat_lt 0 most) most

-- ---- rows

-- what is counted of a function
pub record FunctionCounts : Type 0 where
  pub calls : ℕ
  pub returns : ℕ
  pub exceptions : ℕ

-- what is counted of a process
pub record ProcessCounts : Type 0 where
  pub calls : ℕ
  pub sent : ℕ
  pub received : ℕ
  pub waiting : Waiting

-- there is a row where something is counted
abbrev pub row_of : {C : Type 0} → ℕ → C → Option C
row_of all counts = if all == 0 then None else Some counts

abbrev pub counted_of_function : List ℕ → List Telling → FunctionCounts
counted_of_function function told = record {
  calls = how_many (tells function (is_of (codes "call"))) told;
  returns = how_many (tells function (is_of (codes "return"))) told;
  exceptions = how_many (tells function (is_of (codes "exception"))) told;
}

abbrev pub counted_of_process : List ℕ → List Telling → ProcessCounts
counted_of_process process told = record {
  calls = how_many (does process (is_of (codes "call"))) told;
  sent = how_many (does process is_sent) told;
  received = how_many (does process (is_of (codes "receive"))) told;
  waiting = waiting_for process told;
}

-- all that is counted of one
abbrev pub all_of_function : FunctionCounts → ℕ
all_of_function counts = counts.calls + counts.returns + counts.exceptions

abbrev pub all_of_process : ProcessCounts → ℕ
all_of_process counts = counts.calls + counts.sent + counts.received + counts.waiting.most

-- the row of a function
abbrev pub function_row : List ℕ → List Telling → Option FunctionCounts
function_row function told = row_of (all_of_function (counted_of_function function told)) (counted_of_function function told)

-- the row of a process
abbrev pub process_row : List ℕ → List Telling → Option ProcessCounts
process_row process told = row_of (all_of_process (counted_of_process process told)) (counted_of_process process told)

-- the row of a kind: how many messages are of it
abbrev pub kind_row : List ℕ → List Telling → Option ℕ
kind_row word told = row_of (how_many (is_of word) told) (how_many (is_of word) told)
