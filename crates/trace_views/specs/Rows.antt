-- Rows under the texts that they are for.
use Rattle.std.specs.Prelude.{◌≡◌, ℕ, ◌+◌, Bool, ◌||◌, Option, Some, None, List, [], Vec, codes, if◌then◌else◌}
use Rattle.std.specs.declared.alloc.Global.{Global}
use Rattle.std.specs.Bool.{then_some}
use Rattle.std.specs.HashMap.{HashMap}
use Rattle.std.specs.List.{cons_option, filter_map}
use Rattle.std.specs.Map.{update}
use Rattle.std.specs.Option.{option_map, unwrap_or}
use Rattle.std.specs.Str.{bytes_eq}
use Rattle.trace_text.specs.MessageFacts.{Facts}
use Rattle.trace_times.specs.Keyed.{row_at}
use Rattle.trace_views.specs.Counting.{Telling, Waiting, none_waits, one_comes, goes_if, FunctionCounts, ProcessCounts, function_row, process_row, kind_row, mail, with_holder}
use Rattle.trace_views.specs.declared.messages.KindRow.{KindRow}
use Rattle.trace_views.specs.declared.row.FunctionRow.{FunctionRow}
use Rattle.trace_views.specs.declared.row.ProcessRow.{ProcessRow}
use Rattle.trace_views.specs.declared.row.Waiting.{Waiting as TheWaiting}

-- this row is put under the text, and the others stay
abbrev pub Puts : {R S : Type 0} → HashMap (Vec ℕ Global) R S → HashMap (Vec ℕ Global) R S → List ℕ → R → Type 0
Puts old new text row = (other : List ℕ) → row_at new other ≡ update bytes_eq (row_at old) text (Some row) other

abbrev pub counts_of_function : FunctionRow → FunctionCounts
counts_of_function row = record { calls = row.calls; returns = row.returns; exceptions = row.exceptions }

abbrev pub waiting_in : TheWaiting → Waiting
waiting_in waiting = record { now = waiting.now; most = waiting.most }

abbrev pub counts_of_process : ProcessRow → ProcessCounts
counts_of_process row = record { calls = row.calls; sent = row.sent; received = row.received; waiting = waiting_in row.waiting }

-- nothing is counted yet
abbrev pub no_function_counts : FunctionCounts
no_function_counts = record { calls = 0; returns = 0; exceptions = 0 }

abbrev pub no_process_counts : ProcessCounts
no_process_counts = record { calls = 0; sent = 0; received = 0; waiting = none_waits }

abbrev pub one_if : Bool → ℕ
one_if test = if test then 1 else 0

-- with one message of this kind more
abbrev pub function_counts_with : List ℕ → FunctionCounts → FunctionCounts
function_counts_with kind counts = record {
  calls = counts.calls + one_if (bytes_eq kind (codes "call"));
  returns = counts.returns + one_if (bytes_eq kind (codes "return"));
  exceptions = counts.exceptions + one_if (bytes_eq kind (codes "exception"));
}

abbrev pub process_counts_with : List ℕ → ProcessCounts → ProcessCounts
process_counts_with kind counts = record {
  calls = counts.calls + one_if (bytes_eq kind (codes "call"));
  sent = counts.sent + one_if (bytes_eq kind (codes "send") || bytes_eq kind (codes "send_lost"));
  received = counts.received + one_if (bytes_eq kind (codes "receive"));
  waiting = goes_if (bytes_eq kind (codes "receive")) counts.waiting;
}

-- with one message more that is sent to it
abbrev pub process_counts_sent_to : ProcessCounts → ProcessCounts
process_counts_sent_to counts = record counts { waiting = one_comes counts.waiting }

module _ {S : Type 0} where
  -- what is counted of a function; nothing where it has no row
  abbrev pub function_counts_at : HashMap (Vec ℕ Global) FunctionRow S → List ℕ → FunctionCounts
  function_counts_at rows function = unwrap_or (option_map counts_of_function (row_at rows function)) no_function_counts

  -- of a process
  abbrev pub process_counts_at : HashMap (Vec ℕ Global) ProcessRow S → List ℕ → ProcessCounts
  process_counts_at rows process = unwrap_or (option_map counts_of_process (row_at rows process)) no_process_counts

  -- the row of this process takes these counts on, and the others stay
  abbrev pub PutsProcess : HashMap (Vec ℕ Global) ProcessRow S → HashMap (Vec ℕ Global) ProcessRow S → List ℕ → ProcessCounts → Type 0
  PutsProcess old new process counts = (row : ProcessRow) × Puts old new process row × (counts_of_process row ≡ counts)

  -- so does that of one that is told, where one is
  abbrev pub PutsIfTold : Option (List ℕ) → (ProcessCounts → ProcessCounts) → HashMap (Vec ℕ Global) ProcessRow S → HashMap (Vec ℕ Global) ProcessRow S → Type 0
  PutsIfTold None change old new = (process : List ℕ) → row_at new process ≡ row_at old process
  PutsIfTold (Some process) change old new = PutsProcess old new process (change (process_counts_at old process))

module _ {S : Type 0} where
  -- the process that has a name
  abbrev pub holder_in : HashMap (Vec ℕ Global) (Vec ℕ Global) S → List ℕ → Option (List ℕ)
  holder_in names name = option_map (λ process. process.items) (row_at names name)

  -- a name is given to a process or to none, where one is; the others stay
  abbrev pub SetsName : Option (List ℕ) → Option (List ℕ) → HashMap (Vec ℕ Global) (Vec ℕ Global) S → HashMap (Vec ℕ Global) (Vec ℕ Global) S → Type 0
  SetsName name holder old new = (other : List ℕ) → holder_in new other ≡ with_holder name holder (holder_in old) other

  -- each name has the process that is told to have it
  abbrev pub AreNamesTold : HashMap (Vec ℕ Global) (Vec ℕ Global) S → List Telling → Type 0
  AreNamesTold names told = (name : List ℕ) → holder_in names name ≡ (mail told).holders name

-- the kinds that are counted of functions
abbrev pub is_of_functions : List ℕ → Bool
is_of_functions kind = bytes_eq kind (codes "call") || (bytes_eq kind (codes "return") || bytes_eq kind (codes "exception"))

-- the kinds that are counted of processes
abbrev pub is_of_processes : List ℕ → Bool
is_of_processes kind = bytes_eq kind (codes "call") || ((bytes_eq kind (codes "send") || bytes_eq kind (codes "send_lost")) || bytes_eq kind (codes "receive"))

-- the process that a message is counted of
abbrev pub who_does : Facts → Option (List ℕ)
who_does facts = if is_of_processes facts.kind then facts.tracee else None

module _ {S : Type 0} where
  -- each function has the row that these messages give it
  abbrev pub AreFunctionsCounted : HashMap (Vec ℕ Global) FunctionRow S → List Telling → Type 0
  AreFunctionsCounted rows told = (function : List ℕ) → option_map counts_of_function (row_at rows function) ≡ function_row function told

  -- each process
  abbrev pub AreProcessesCounted : HashMap (Vec ℕ Global) ProcessRow S → List Telling → Type 0
  AreProcessesCounted rows told = (process : List ℕ) → option_map counts_of_process (row_at rows process) ≡ process_row process told

-- the counts of the rows of a kind, by its word
abbrev pub counts_under : List KindRow → List ℕ → List ℕ
counts_under rows word = filter_map (λ row. then_some (bytes_eq row.word.now word) row.count) rows

-- each kind has the one row that these messages give it
abbrev pub AreKindsCounted : List KindRow → List Telling → Type 0
AreKindsCounted rows told = (word : List ℕ) → counts_under rows word ≡ cons_option (kind_row word told) []
