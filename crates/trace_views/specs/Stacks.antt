-- The calls of processes that are open, and how often each stack of them is called.
use Rattle.std.specs.Prelude.{◌≡◌, ℕ, ◌+◌, ◌-◌, ◌/◌, ◌==◌, Bool, true, false, Option, List, [], ◌∷◌, ◌++◌, length, map, take, fold, count_by, flat_map, nat_le, Vec, if◌then◌else◌}
use Rattle.std.specs.Fmt.{decimal}
use Rattle.std.specs.Coded.{Coded-set, Π_prop, coded_bool, coded_list, coded_ℕ}
use Rattle.std.specs.HashSet.{HashSet, contains_by}
use Rattle.std.specs.List.{list_any}
use Rattle.std.specs.Option.{option_map, unwrap_or}
use Rattle.std.specs.Str.{bytes_eq}
use Rattle.std.specs.Cmp.Lexicographic.{slice_cmp}
use Rattle.std.specs.Ordering.{nat_cmp}
use Rattle.std.specs.declared.alloc.Global.{Global}
use Rattle.std.specs.BTreeMap.{BTreeMap}
use Rattle.std.specs.BTreeMap as tree
use Rattle.trace_views.specs.declared.ends.Ends.{Ends}
use Rattle.trace_times.specs.declared.open_calls.OpenCall.{OpenCall}
use Rattle.trace_times.specs.declared.open_calls.OpenCalls.{OpenCalls}
use Rattle.trace_views.specs.declared.stack_rows.StackRow.{StackRow}
use Rattle.trace_views.specs.declared.stacks.Stacks.{Stacks}
use Rattle.trace_times.specs.Opens.{open_calls, most_of_all, with_call, with_return, back_in}

-- ---- texts

-- a name in a stack, with a colon for each semicolon, since these part the names there
abbrev pub one_name : List ℕ → List ℕ
one_name name = map (λ byte. if byte == 59 then 58 else byte) name

-- functions behind the text of a process, the outermost first, with a semicolon before each
abbrev pub stack_text : List ℕ → List (List ℕ) → List ℕ
stack_text process [] = process
stack_text process (name ∷ names) = stack_text process names ++ (59 ∷ one_name name)

-- the text of a stack: so many functions are shown at most, the innermost ones
abbrev pub shown_text : List ℕ → List (List ℕ) → List ℕ
shown_text process names = stack_text (one_name process) (take 256 names)

-- the functions of calls
abbrev pub names_in : List (OpenCall (Vec ℕ Global)) → List (List ℕ)
names_in calls = map (λ call. call.function.items) calls

-- those of the open calls of a process, the innermost first
abbrev pub names_of : OpenCalls (Vec ℕ Global) → List ℕ → List (List ℕ)
names_of opens process = names_in (open_calls opens process)

-- ---- functions that tell their ends

-- a name is among these
abbrev pub has_name : {S : Type 0} → HashSet (Vec ℕ Global) S → List ℕ → Bool
has_name names name = contains_by (λ key. bytes_eq name key.items) names

-- a function is known to tell its ends
abbrev pub is_known : Ends → List ℕ → Bool
is_known ends function = has_name ends.names function

-- ---- rows

abbrev pub Rows : Type 0
Rows = BTreeMap (Vec ℕ Global) StackRow

-- the row of a text
abbrev pub stack_row_at : Rows → List ℕ → Option StackRow
stack_row_at rows text = tree.get_by (λ key. slice_cmp nat_cmp text key.items) rows

-- how often a stack is called
abbrev pub calls_at : Rows → List ℕ → ℕ
calls_at rows text = unwrap_or (option_map (λ row. row.calls) (stack_row_at rows text)) 0

-- how long its innermost function runs
abbrev pub time_at : Rows → List ℕ → ℕ
time_at rows text = unwrap_or (option_map (λ row. row.time) (stack_row_at rows text)) 0

-- they stand in the order of their texts, each text once
abbrev pub AreOrdered : Rows → Type 0
AreOrdered rows = tree.IsOrdered (λ a b. slice_cmp nat_cmp a.items b.items) rows

-- the number of its line: its time in whole microseconds, or how often it is called
abbrev pub number_of : Bool → StackRow → ℕ
number_of is_timed row = if is_timed then row.time / 1000 else row.calls

-- its line: the text, a blank, the number and a line feed
abbrev pub stack_line : Bool → Vec ℕ Global × StackRow → List ℕ
stack_line is_timed entry = entry.0.items ++ (32 ∷ (decimal (number_of is_timed entry.1) ++ (10 ∷ [])))

-- the lines of rows
abbrev pub lines_of : Bool → List (Vec ℕ Global × StackRow) → List ℕ
lines_of is_timed entries = flat_map (stack_line is_timed) entries

-- ---- all processes

-- what a message tells of the calls of a process
pub data Act : Type 0 where
  Calls : List ℕ → List ℕ → Act
  Returns : List ℕ → List ℕ → Act
  ReturnsTo : List ℕ → List ℕ → Act
  Exits : List ℕ → Act
  Loses : Act
  Other : Act

-- an act tells an end of this function
abbrev pub is_end_of : List ℕ → Act → Bool
is_end_of function (Returns process ended) = bytes_eq ended function
is_end_of function act = false

-- some act does
abbrev pub tells_end : List Act → List ℕ → Bool
tells_end acts function = list_any (is_end_of function) acts

-- these are the functions of which some act tells an end
abbrev pub AreEnds : Ends → List Act → Type 0
AreEnds ends acts = (function : List ℕ) → is_known ends function ≡ tells_end acts function

-- the functions of the open calls of each process, the innermost first, how many are open in all, which functions tell their ends, and the stacks that were called
pub record Folding : Type 0 where
  pub opens : List ℕ → List (List ℕ)
  pub count : ℕ
  pub ends : List ℕ → Bool
  pub called : List (List ℕ)

-- nothing was told yet, but which functions tell their ends
abbrev pub nothing_told : (List ℕ → Bool) → Folding
nothing_told ends = record { opens = λ _. []; count = 0; ends = ends; called = [] }

-- these are now the functions of the open calls of a process
abbrev pub with_names : Folding → List ℕ → List (List ℕ) → Folding
with_names told process now = record told {
  opens = λ other. if bytes_eq process other then now else told.opens other;
  count = told.count + length now - length (told.opens process);
}

-- this stack was called
abbrev pub with_stack : Folding → List ℕ → List (List ℕ) → Folding
with_stack told process names = record told { called = told.called ++ (shown_text process names ∷ []) }

-- the functions of a process that calls one
abbrev pub names_with : Folding → List ℕ → List ℕ → List (List ℕ)
names_with told process function = with_call (nat_le most_of_all told.count) function (told.opens process)

-- a call of a function that tells its ends opens one; any other is counted behind the open ones, and is over
abbrev pub with_call_of : Bool → Folding → List ℕ → List ℕ → Folding
with_call_of true told process function = with_stack (with_names told process (names_with told process function)) process (names_with told process function)
with_call_of false told process function = with_stack told process (function ∷ told.opens process)

-- from now on a function tells its ends
abbrev pub with_end : Folding → List ℕ → Folding
with_end told function = record told { ends = λ other. if bytes_eq function other then true else told.ends other }

-- a process does something, or messages are lost
abbrev pub with_act : Folding → Act → Folding
with_act told (Calls process function) = with_call_of (told.ends function) told process function
with_act told (Returns process function) = with_end (with_names told process (with_return (λ name. bytes_eq name function) (told.opens process))) function
with_act told (ReturnsTo process function) = with_names told process (back_in (λ name. bytes_eq name function) (told.opens process))
with_act told (Exits process) = with_names told process []
with_act told Loses = record told { opens = λ _. []; count = 0 }
with_act told Other = told

-- what all that is told comes to, where these told before which functions tell their ends
abbrev pub folding : List Act → List Act → Folding
folding before acts = fold with_act (nothing_told (tells_end before)) acts

-- how often a stack was called
abbrev pub calls_of : List ℕ → List Act → List Act → ℕ
calls_of text before acts = count_by (λ stack. bytes_eq stack text) (folding before acts).called

-- the stacks and their rows are those of what is told
pub record IsFolded (before : List Act) (stacks : Stacks) (acts : List Act) : Type 0 where
  pub opens : (process : List ℕ) → names_of stacks.opens process ≡ (folding before acts).opens process
  pub count : stacks.opens.count ≡ (folding before acts).count
  pub ends : (function : List ℕ) → is_known stacks.ends function ≡ (folding before acts).ends function
  pub calls : (text : List ℕ) → calls_at stacks.rows.rows text ≡ calls_of text before acts

pub AreEnds-prop : (ends : Ends) (acts : List Act) → IsProp (AreEnds ends acts)
AreEnds-prop ends acts = Π_prop (λ function. Coded-set coded_bool (is_known ends function) (tells_end acts function))

pub IsFolded-prop : (before : List Act) (stacks : Stacks) (acts : List Act) → IsProp (IsFolded before stacks acts)
IsFolded-prop before stacks acts = λ p q. λ i. record {
  opens = (Π_prop (λ process. Coded-set (coded_list (coded_list coded_ℕ)) (names_of stacks.opens process) ((folding before acts).opens process))) p.opens q.opens i;
  count = Coded-set coded_ℕ _ _ p.count q.count i;
  ends = (Π_prop (λ function. Coded-set coded_bool (is_known stacks.ends function) ((folding before acts).ends function))) p.ends q.ends i;
  calls = (Π_prop (λ text. Coded-set coded_ℕ (calls_at stacks.rows.rows text) (calls_of text before acts))) p.calls q.calls i;
}
