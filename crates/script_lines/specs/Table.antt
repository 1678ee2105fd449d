-- Which words spell which line: a row for each keyword that a line begins with.
use Rattle.std.specs.Prelude.{◌≡◌, ◌↔◌, ◌⊎◌, ℕ, ◌≤◌, ◌<◌, ◌+◌, IsTrue, Vec, Bool, true, false, pos, List, [], ◌∷◌, length, codes}
use Rattle.std.specs.List.{count_by}
use Rattle.std.specs.Str.{chars}
use Rattle.std.specs.Prelude.{nat_eq}
use Rattle.std.specs.declared.alloc.Global.{Global}
use Rattle.trace_terms.specs.Data.{Data, list}
use Rattle.trace_terms.specs.View.{members_of}
use Rattle.ext_format.specs.Spelling.{Spells as SpellsTerm}
use Rattle.entry_codec.specs.declared.model.Entry.TheVariants as held
use Rattle.trace_text.specs.AtomText.{is_plain}
use Rattle.trace_message.specs.Events.{EventData, event_view, call, return_from, exception_from, send, send_lost, receive}
use Rattle.trace_message.specs.declared.event.Event.{Event}
use Rattle.trace_message.specs.declared.event.Flags.{Flags}
use Rattle.script_lines.specs.Spellings.{IsNumber, IsNumberIn, IsHex, IsBytes, Sole, Two, Three, First, words}
use Rattle.script_lines.specs.Keywords.{Behind}
use Rattle.script_lines.specs.declared.keyword.Keyword.{Keyword}
use Rattle.script_lines.specs.declared.keyword.Keyword.TheVariants as keywords
use Rattle.script_lines.specs.declared.line.Unsynced.TheVariants as unsynced
use Rattle.script_lines.specs.declared.line.Line.{Line}
use Rattle.script_lines.specs.declared.line.Line.TheVariants as lines
use Rattle.script_lines.specs.declared.desk_line.DeskLine.{DeskLine}
use Rattle.script_lines.specs.declared.desk_line.DeskLine.TheVariants as desk_lines
use Rattle.script_lines.specs.declared.desk_line.TraceeLine.TheVariants as tracee_lines

-- no word follows
abbrev pub IsAlone : List (List ℕ) → Line → Line → Type 0
IsAlone others it line = (others ≡ []) × (line ≡ it)

-- the line is made of a number, which is the only word that follows
abbrev pub IsOfNumber : List (List ℕ) → (ℕ → Line) → Line → Type 0
IsOfNumber others made line = (n : ℕ) × Sole IsNumber others n × (line ≡ made n)

-- the same, of a number from least to most
abbrev pub IsOfNumberIn : ℕ → ℕ → List (List ℕ) → (ℕ → Line) → Line → Type 0
IsOfNumberIn least most others made line = (n : ℕ) × Sole (IsNumberIn least most) others n × (line ≡ made n)

-- a number from 0 to 65,535
abbrev pub IsShort : List ℕ → ℕ → Type 0
IsShort = IsNumberIn 0 65535

-- a number from 0 to 4,294,967,295
abbrev pub IsLong : List ℕ → ℕ → Type 0
IsLong = IsNumberIn 0 4294967295

-- the number of a tracee
abbrev pub IsTracee : List ℕ → ℕ → Type 0
IsTracee = IsNumberIn 0 999

-- the bytes of a vector
abbrev pub IsHeld : List ℕ → Vec ℕ Global → Type 0
IsHeld word v = IsBytes word v.items

-- a byte, always of two digits
abbrev pub IsByte : List ℕ → ℕ → Type 0
IsByte word b = IsHex word (b ∷ [])

-- `create` a file, or a wrap by size or by time
abbrev pub Creates : Keyword → List (List ℕ) → Line → Type 0
Creates keywords.File others line = IsOfNumber others lines.CreateFile line
Creates keywords.Wrap others line = (size count : ℕ) × Two IsLong IsShort others size count × (line ≡ lines.CreateWrap size count)
Creates keywords.Time others line = (millis count : ℕ) × Two IsLong IsShort others millis count × (line ≡ lines.CreateTime millis count)
Creates _ others line = ⊥

-- `resume` a file or a wrap
abbrev pub Resumes : Keyword → List (List ℕ) → Line → Type 0
Resumes keywords.File others line = IsOfNumber others lines.ResumeFile line
Resumes keywords.Wrap others line = IsAlone others lines.ResumeWrap line
Resumes _ others line = ⊥

-- `crash`, and what is left
abbrev pub Crashes : Keyword → List (List ℕ) → Line → Type 0
Crashes keywords.Kept others line = IsAlone others (lines.Crash unsynced.Kept) line
Crashes keywords.Low others line = (byte : ℕ) × Sole IsByte others byte × (line ≡ lines.Crash (unsynced.Fill byte false))
Crashes keywords.High others line = (byte : ℕ) × Sole IsByte others byte × (line ≡ lines.Crash (unsynced.Fill byte true))
Crashes _ others line = ⊥

-- a term in hexadecimal, and nothing more
pub record IsTerm (word : List ℕ) (t : Data) : Type 0 where
  pub bytes : List ℕ
  pub are : IsBytes word bytes
  pub spell : SpellsTerm t bytes

-- the list of the arguments
abbrev pub IsArguments : List ℕ → List Data → Type 0
IsArguments word args = IsTerm word (list (members_of args))

-- an atom that a listing writes plain
pub record IsAtom (word text : List ℕ) : Type 0 where
  pub same : text ≡ word
  pub plain : IsTrue (is_plain word)
  pub short : length (chars word) ≤ 255

-- how many arguments a function has
abbrev pub IsArity : List ℕ → ℕ → Type 0
IsArity = IsNumberIn 0 255

-- EVENT, by the keyword that it begins with
abbrev pub IsEvent : Keyword → List (List ℕ) → EventData → Type 0
IsEvent keywords.Receive others event = (message : Data) × Sole IsTerm others message × (event ≡ receive message)
IsEvent keywords.Send others event = (message target : Data) × Two IsTerm IsTerm others message target × (event ≡ send message target)
IsEvent keywords.SendLost others event = (message target : Data) × Two IsTerm IsTerm others message target × (event ≡ send_lost message target)
IsEvent keywords.Call others event =
    (mod_name fun_name : List ℕ) × (args : List Data) × Three IsAtom IsAtom IsArguments others mod_name fun_name args × (event ≡ call mod_name fun_name args)
IsEvent keywords.Return others event =
    (mod_name fun_name : List ℕ) × (arity : ℕ) × (value : Data)
    × First IsAtom (λ ws (_ : ℕ). Three IsAtom IsArity IsTerm ws fun_name arity value) others mod_name 0 × (event ≡ return_from mod_name fun_name arity value)
IsEvent keywords.Exception others event =
    (mod_name fun_name class : List ℕ) × (arity : ℕ) × (value : Data)
    × First IsAtom (λ ws (_ : ℕ). First IsAtom (λ vs (_ : ℕ). Three IsArity IsAtom IsTerm vs arity class value) ws fun_name 0) others mod_name 0
    × (event ≡ exception_from mod_name fun_name arity class value)
IsEvent _ others event = ⊥

-- once where a flag is set, and else not at all
abbrev pub times : Bool → ℕ
times true = 1
times false = 0

-- how often a letter stands in a word
abbrev pub count_of : ℕ → List ℕ → ℕ
count_of letter word = count_by (nat_eq letter) word

-- how many flags are set
abbrev pub set_in : Flags → ℕ
set_in flags = times flags.call + times flags.send + times flags.receive + times flags.arity + times flags.timestamp + times flags.monotonic

-- the flags that are set are those whose letters stand in a word, once or more
pub record Names (word : List ℕ) (flags : Flags) : Type 0 where
  pub call : IsTrue flags.call ↔ (0 < count_of 99 word)
  pub send : IsTrue flags.send ↔ (0 < count_of 115 word)
  pub receive : IsTrue flags.receive ↔ (0 < count_of 114 word)
  pub arity : IsTrue flags.arity ↔ (0 < count_of 97 word)
  pub timestamp : IsTrue flags.timestamp ↔ (0 < count_of 116 word)
  pub monotonic : IsTrue flags.monotonic ↔ (0 < count_of 109 word)

-- each letter of `csratm` stands there once where its flag is set, and else not at all; no other letter does
pub record HasLetters (word : List ℕ) (flags : Flags) : Type 0 where
  pub call : count_of 99 word ≡ times flags.call
  pub send : count_of 115 word ≡ times flags.send
  pub receive : count_of 114 word ≡ times flags.receive
  pub arity : count_of 97 word ≡ times flags.arity
  pub timestamp : count_of 116 word ≡ times flags.timestamp
  pub monotonic : count_of 109 word ≡ times flags.monotonic
  pub others : length word ≡ set_in flags

-- FLAGS: one letter or more, or `-` for none
pub data IsFlags : List ℕ → Flags → Type 0 where
  none : (flags : Flags) → HasLetters [] flags → IsFlags (codes "-") flags
  some : (word : List ℕ) (flags : Flags) → 0 < length word → HasLetters word flags → IsFlags word flags

-- a line for a desk, by its keyword
abbrev pub DeskRow : Keyword → List (List ℕ) → DeskLine → Type 0
DeskRow keywords.Stamp others line = (mega sec micro : ℕ) × Three IsLong IsLong IsLong others mega sec micro × (line ≡ desk_lines.Stamp mega sec micro)
DeskRow keywords.Mono others line = (nanos : ℕ) × Sole (IsNumberIn 0 9223372036854775807) others nanos × (line ≡ desk_lines.Mono (pos nanos))
DeskRow keywords.Tracee others line =
    (number capacity drop_limit : ℕ) × (flags : Flags)
    × First IsTracee (λ ws (_ : ℕ). Three IsLong IsLong IsFlags ws capacity drop_limit flags) others number 0 × (line ≡ desk_lines.Tracee number capacity drop_limit flags)
DeskRow keywords.Emit others line =
    (number : ℕ) × (event : Event) × First IsTracee (λ ws (e : Event). Behind IsEvent ws (event_view e)) others number event × (line ≡ desk_lines.OfTracee number (tracee_lines.Emit event))
DeskRow keywords.Hand others line = (number limit : ℕ) × Two IsTracee IsLong others number limit × (line ≡ desk_lines.OfTracee number (tracee_lines.Hand limit))
DeskRow keywords.FlushFor others line = (number : ℕ) × Sole IsTracee others number × (line ≡ desk_lines.OfTracee number tracee_lines.FlushFor)
DeskRow keywords.Counts others line = (number : ℕ) × Sole IsTracee others number × (line ≡ desk_lines.OfTracee number tracee_lines.Counts)
DeskRow _ others line = ⊥

-- the words after a keyword that a line for a desk begins with
abbrev pub IsOfDesk : Keyword → List (List ℕ) → Line → Type 0
IsOfDesk keyword others line = (it : DeskLine) × DeskRow keyword others it × (line ≡ lines.AtDesk it)

-- a line that isn't for a desk and holds no bytes, by its keyword
abbrev pub PlainRow : Keyword → List (List ℕ) → Line → Type 0
PlainRow keywords.Store others line = IsOfNumberIn 1 1001 others lines.Store line
PlainRow keywords.Fuse others line = IsOfNumber others lines.Fuse line
PlainRow keywords.FailOnce others line = IsOfNumber others lines.FailOnce line
PlainRow keywords.Create others line = Behind Creates others line
PlainRow keywords.Resume others line = Behind Resumes others line
PlainRow keywords.Files others line = IsAlone others lines.Files line
PlainRow keywords.List others line = IsAlone others lines.List line
PlainRow keywords.Wipe others line = IsAlone others lines.Wipe line
PlainRow keywords.Crash others line = Behind Crashes others line
PlainRow keywords.Lose others line = (count : ℕ) × Sole (IsNumberIn 1 4294967295) others count × (line ≡ lines.Put (held.Drop count))
PlainRow keywords.Flush others line = IsAlone others lines.Flush line
PlainRow keywords.Seal others line = IsAlone others lines.Seal line
PlainRow keywords.Tick others line = IsOfNumber others lines.Tick line
PlainRow keywords.Abandon others line = IsAlone others lines.Abandon line
PlainRow keywords.Close others line = IsAlone others lines.Close line
PlainRow keywords.Desk others line = IsAlone others lines.Desk line
PlainRow _ others line = ⊥

-- a line that holds bytes, by its keyword
abbrev pub HeldRow : Keyword → List (List ℕ) → Line → Type 0
HeldRow keywords.Bytes others line = (file : ℕ) × (bytes : Vec ℕ Global) × Two (IsNumberIn 0 1000) IsHeld others file bytes × (line ≡ lines.Bytes file bytes)
HeldRow keywords.Put others line = (bytes : Vec ℕ Global) × Sole IsHeld others bytes × (length bytes.items ≤ 65531) × (line ≡ lines.Put (held.Message bytes))
HeldRow _ others line = ⊥

-- a line, by its keyword
abbrev pub Row : Keyword → List (List ℕ) → Line → Type 0
Row keyword others line = PlainRow keyword others line ⊎ (HeldRow keyword others line ⊎ IsOfDesk keyword others line)

-- the text spells the line: its words begin with a keyword, and those after it say so
abbrev pub Spells : Line → List ℕ → Type 0
Spells line text = Behind Row (words text) line
