-- What a table tells as an object of JSON.
use Rattle.std.specs.Prelude.{◌≡◌, ◌≤◌, ℕ, Bool, Option, Some, None, List, [], ◌∷◌, ◌++◌, map, take, count_by, codes}
use Rattle.std.specs.Io.KnownBytes.{Appends}
use Rattle.std.specs.List.{AllByRecursion, AllZip}
use Rattle.std.specs.Map.{keys_of}
use Rattle.std.specs.Option.{is_some}
use Rattle.std.specs.Str.{bytes_eq}
use Rattle.std.specs.Str.Lossy.{utf8_lossy}
use Rattle.serde_json.specs.Data.{Data, Members, null, number, unsigned, string, array, depth, put}
use Rattle.serde_json.specs.Find.{get}
use Rattle.serde_json.specs.Read.{read}
use Rattle.serde_json.specs.View.{items_of}
use Rattle.command_line.specs.declared.ranking.Grouping.{Grouping}
use Rattle.command_line.specs.declared.ranking.Grouping.TheVariants as by
use Rattle.command_line.specs.declared.ranking.Ranking.{Ranking}
use Rattle.trace_views.specs.Counting.{Telling, FunctionCounts, ProcessCounts, counted_of_function, counted_of_process, known_waiting, function_row, process_row, kind_row, how_many, is_of, messages, unread, lost}
use Rattle.trace_views.specs.Lines.{line_pairs}
use Rattle.trace_views.specs.Rows.{counts_of_function, counts_of_process, one_if}
use Rattle.trace_views.specs.declared.table.Rows.{Rows}
use Rattle.trace_views.specs.declared.table.Rows.TheVariants as rows
use Rattle.trace_views.specs.declared.table.Table.{Table}

-- ---- members

-- a name, and what stands under it
abbrev pub Member : Type 0
Member = List ℕ × Data

abbrev pub told_number : ℕ → Data
told_number n = number (unsigned n)

-- bytes that aren't UTF-8 are replaced
abbrev pub told_text : List ℕ → Data
told_text bytes = string (utf8_lossy bytes)

-- an object has these members
abbrev pub HasMembers : List Member → Data → Type 0
HasMembers members told = AllByRecursion (λ member. get member.0 told ≡ Some member.1) members

-- an object with these put to its members
abbrev pub with_members : List Member → Members → Members
with_members [] members = members
with_members (member ∷ more) members = with_members more (put member.0 member.1 members)

-- so deep at most do arrays and objects nest in each of these
abbrev pub AreWithin : ℕ → List Data → Type 0
AreWithin most values = AllByRecursion (λ value. depth value ≤ most) values

-- a number, or null where there is none
abbrev pub number_or_null : Option ℕ → Data
number_or_null None = null
number_or_null (Some n) = told_number n

-- those of the row of a function
abbrev pub function_members : List ℕ → FunctionCounts → List Member
function_members function counts = (codes "function", told_text function) ∷ (codes "calls", told_number counts.calls) ∷ (codes "returns", told_number counts.returns) ∷ (codes "exceptions", told_number counts.exceptions) ∷ []

-- those that tell of its times, and how many calls are open
abbrev pub time_members : Data → Data → Data → Data → Data → List Member
time_members total own mean longest still = (codes "total", total) ∷ (codes "own", own) ∷ (codes "mean", mean) ∷ (codes "longest", longest) ∷ (codes "open", still) ∷ []

-- of a process
abbrev pub process_members : List ℕ → ProcessCounts → List Member
process_members process counts =
    (codes "process", told_text process) ∷ (codes "calls", told_number counts.calls) ∷ (codes "sent", told_number counts.sent) ∷ (codes "received", told_number counts.received) ∷ (codes "waiting", number_or_null (known_waiting process counts.waiting.most)) ∷ []

-- of a kind
abbrev pub kind_members : List ℕ → ℕ → List Member
kind_members word count = (codes "kind", told_text word) ∷ (codes "count", told_number count) ∷ []

-- the word of a grouping
abbrev pub word_of : Grouping → List ℕ
word_of by.Function = codes "function"
word_of by.Process = codes "process"
word_of by.Kind = codes "kind"

-- those of a table that tell of all messages
abbrev pub table_members : Grouping → ℕ → ℕ → ℕ → List Member
table_members grouping all unread lost = (codes "by", string (word_of grouping)) ∷ (codes "messages", told_number all) ∷ (codes "unread", told_number unread) ∷ (codes "lost", told_number lost) ∷ []

-- those that tell where the messages lie
abbrev pub course_members : Data → Data → Data → Data → Data → List Member
course_members from to share bars lost_bars = (codes "from", from) ∷ (codes "to", to) ∷ (codes "share", share) ∷ (codes "bars", bars) ∷ (codes "lost_bars", lost_bars) ∷ []

-- an object has these members, and an array of rows of which each has these
pub record HasRows (members : List Member) (each : List (List Member)) (table : Data) : Type 0 where
  pub has : HasMembers members table
  pub rows : List Data
  pub has_rows : get (codes "rows") table ≡ Some (array (items_of rows))
  pub each_has : AllZip HasMembers each rows

-- ---- what is counted

-- whether a text has a row
abbrev pub has_row : Grouping → List Telling → List ℕ → Bool
has_row by.Function told text = is_some (function_row text told)
has_row by.Process told text = is_some (process_row text told)
has_row by.Kind told text = is_some (kind_row text told)

-- what the row of a text tells
abbrev pub row_members : Grouping → List Telling → List ℕ → List Member
row_members by.Function told text = function_members text (counted_of_function text told)
row_members by.Process told text = process_members text (counted_of_process text told)
row_members by.Kind told text = kind_members text (how_many (is_of text) told)

-- these are the texts that have rows, each once
abbrev pub AreTexts : Grouping → List Telling → List (List ℕ) → Type 0
AreTexts grouping told texts = (text : List ℕ) → count_by (bytes_eq text) texts ≡ one_if (has_row grouping told text)

-- an object tells what is counted of these, in the order of some texts up to a limit
pub record TellsTable (ranking : Ranking) (told : List Telling) (table : Data) : Type 0 where
  pub texts : List (List ℕ)
  pub are_texts : AreTexts ranking.by told texts
  pub tells : HasRows (table_members ranking.by (messages told) (unread told) (lost told)) (take ranking.limit (map (row_members ranking.by told) texts)) table

-- the bytes of a writer grew by a line of JSON that tells so
pub record WritesTable (ranking : Ranking) (told : List Telling) (was now : Option (List ℕ)) : Type 0 where
  pub text : List ℕ
  pub writes : Appends was now (text ++ (10 ∷ []))
  pub table : Data
  pub reads : read text ≡ Some table
  pub tells : TellsTable ranking told table

-- ---- tables

-- their texts
abbrev pub row_texts : Rows → List (List ℕ)
row_texts (rows.Functions lines) = keys_of (line_pairs lines.items)
row_texts (rows.Processes lines) = keys_of (line_pairs lines.items)
row_texts (rows.Kinds lines) = keys_of (line_pairs lines.items)

-- what they tell
abbrev pub members_in : Rows → List (List Member)
members_in (rows.Functions lines) = map (λ line. function_members line.0 (counts_of_function line.1)) (line_pairs lines.items)
members_in (rows.Processes lines) = map (λ line. process_members line.0 (counts_of_process line.1)) (line_pairs lines.items)
members_in (rows.Kinds lines) = map (λ line. kind_members line.0 line.1) (line_pairs lines.items)

-- they tell what is counted
pub record AreTold (grouping : Grouping) (told : List Telling) (rows : Rows) : Type 0 where
  pub texts : AreTexts grouping told (row_texts rows)
  pub members : members_in rows ≡ map (row_members grouping told) (row_texts rows)

-- an object tells what a table has
abbrev pub TellsRows : Table → Data → Type 0
TellsRows table told = HasRows (table_members table.by table.messages table.unread table.lost) (take table.limit (members_in table.rows)) told
