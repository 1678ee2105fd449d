-- The texts of the keywords.
use Rattle.std.specs.Prelude.{◌≡◌, ℕ, Option, Some, None, if◌then◌else◌, List, [], ◌∷◌, codes}
use Rattle.std.specs.Str.{bytes_eq}
use Rattle.script_lines.specs.declared.keyword.Keyword.{Keyword}
use Rattle.script_lines.specs.declared.keyword.Keyword.TheVariants as keywords

-- the text of each
abbrev pub text_of : Keyword → List ℕ
text_of keywords.Store = codes "store"
text_of keywords.Bytes = codes "bytes"
text_of keywords.Fuse = codes "fuse"
text_of keywords.FailOnce = codes "failonce"
text_of keywords.Create = codes "create"
text_of keywords.Resume = codes "resume"
text_of keywords.Files = codes "files"
text_of keywords.List = codes "list"
text_of keywords.Wipe = codes "wipe"
text_of keywords.Crash = codes "crash"
text_of keywords.Put = codes "put"
text_of keywords.Lose = codes "lose"
text_of keywords.Flush = codes "flush"
text_of keywords.Seal = codes "seal"
text_of keywords.Tick = codes "tick"
text_of keywords.Abandon = codes "abandon"
text_of keywords.Close = codes "close"
text_of keywords.Desk = codes "desk"
text_of keywords.Stamp = codes "stamp"
text_of keywords.Mono = codes "mono"
text_of keywords.Tracee = codes "tracee"
text_of keywords.Emit = codes "emit"
text_of keywords.Hand = codes "hand"
text_of keywords.FlushFor = codes "flushfor"
text_of keywords.Counts = codes "counts"
text_of keywords.File = codes "file"
text_of keywords.Wrap = codes "wrap"
text_of keywords.Time = codes "time"
text_of keywords.Kept = codes "kept"
text_of keywords.Low = codes "low"
text_of keywords.High = codes "high"
text_of keywords.Receive = codes "receive"
text_of keywords.Send = codes "send"
text_of keywords.SendLost = codes "sendlost"
text_of keywords.Call = codes "call"
text_of keywords.Return = codes "return"
text_of keywords.Exception = codes "exception"

-- all of them
abbrev pub all_keywords : List Keyword
all_keywords =
    keywords.Store ∷ keywords.Bytes ∷ keywords.Fuse ∷ keywords.FailOnce ∷ keywords.Create ∷ keywords.Resume ∷ keywords.Files ∷ keywords.List ∷ keywords.Wipe
    ∷ keywords.Crash ∷ keywords.Put ∷ keywords.Lose ∷ keywords.Flush ∷ keywords.Seal ∷ keywords.Tick ∷ keywords.Abandon ∷ keywords.Close ∷ keywords.Desk
    ∷ keywords.Stamp ∷ keywords.Mono ∷ keywords.Tracee ∷ keywords.Emit ∷ keywords.Hand ∷ keywords.FlushFor ∷ keywords.Counts ∷ keywords.File ∷ keywords.Wrap
    ∷ keywords.Time ∷ keywords.Kept ∷ keywords.Low ∷ keywords.High ∷ keywords.Receive ∷ keywords.Send ∷ keywords.SendLost ∷ keywords.Call ∷ keywords.Return
    ∷ keywords.Exception ∷ []

-- the first of these keywords that the text is
unfoldable pub keyword_among : List Keyword → List ℕ → Option Keyword
keyword_among [] text = None
keyword_among (keyword ∷ others) text = if bytes_eq text (text_of keyword) then Some keyword else keyword_among others text

-- words begin with a keyword, and those after it say so
pub record Behind {X : Type 0} (Says : Keyword → List (List ℕ) → X → Type 0) (words : List (List ℕ)) (x : X) : Type 0 where
  pub keyword : Keyword
  pub others : List (List ℕ)
  pub begins : words ≡ text_of keyword ∷ others
  pub says : Says keyword others x
