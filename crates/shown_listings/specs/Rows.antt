-- The rows of a listing for people, one for a line.
use Rattle.std.specs.Prelude.{◌≡◌, ◌≢◌, ◌≤◌, ℕ, suc, ◌-◌, Bool, true, false, ◌||◌, ◌==◌, nat_lt, Option, Some, None, OnSome, List, [], ◌∷◌, ◌++◌, map, take, drop, length, codes, if◌then◌else◌, option_and_then, IfSome, IsUtf8, bytes_eq}
use Rattle.std.specs.declared.vec.Vec.{Vec}
use Rattle.std.specs.declared.alloc.Global.{Global}
use Rattle.std.specs.List.{All}
use Rattle.std.specs.Coded.{coded_list, coded_ℕ, Coded-set, Unit-prop, Π_prop, →_prop}
use Rattle.shown_listings.specs.Growth.{Appends-prop}
use Rattle.std.specs.Io.KnownBytes.{Appends}
use Rattle.shown_listings.specs.Ends.{text_of_lines, counted}
use Rattle.shown_listings.specs.declared.given.Given.{Given}
use Rattle.shown_listings.specs.declared.look.Rule.{Rule}
use Rattle.shown_listings.specs.Since.{IsFrom}
use Rattle.trace_text.specs.Objects.{object_text, end_members}
use Rattle.json.specs.Json.{document}
use Rattle.json.specs.Find.{get, as_str}

-- what a byte of a text is shown as: one that governs a terminal as a blank
abbrev pub shown_byte : ℕ → ℕ
shown_byte byte = if nat_lt byte 32 || byte == 127 then 32 else byte

-- what a byte beside a text is shown as: a line feed as a blank
abbrev pub unfed_byte : ℕ → ℕ
unfed_byte byte = if byte == 10 then 32 else byte

-- the sign behind a text that is cut
abbrev pub cut_sign : List ℕ
cut_sign = 226 ∷ 128 ∷ 166 ∷ []

-- the text of the entry of an object, by the grammar of JSON that the kit has
unfoldable pub text_in : List ℕ → Option (List ℕ)
text_in line = option_and_then as_str (option_and_then (get (codes "text")) (document line))

-- a text is shown whole; or, where it may be cut, its first bytes with the sign behind them
pub data ShowsText (cut : Bool) (text : List ℕ) : List ℕ → Type 0 where
  whole : ShowsText cut text (map shown_byte text)
  front : (n : ℕ) → cut ≡ true → ShowsText cut text (map shown_byte (take n text) ++ cut_sign)

-- none of the bytes is a line feed
abbrev pub HasNoFeed : List ℕ → Type 0
HasNoFeed bytes = All (λ byte. byte ≢ 10) bytes

-- a row is one line, in which a text is shown
pub record ShowsInRow (cut : Bool) (text row : List ℕ) : Type 0 where
  pub before : List ℕ
  pub part : List ℕ
  pub after : List ℕ
  pub shows : ShowsText cut text part
  pub is : row ≡ ((before ++ part) ++ after) ++ 10 ∷ []
  pub one_line : HasNoFeed ((before ++ part) ++ after)

-- the row of a line: of an entry it shows the text
pub record IsRow (cut : Bool) (line row : List ℕ) : Type 0 where
  pub text : List ℕ
  pub shows : ShowsInRow cut text row
  pub same : IsUtf8 line → IfSome (text_in line) (λ told. told ≡ text)

-- the line is the last of the listing of a trace
abbrev pub is_end : List ℕ → Bool
is_end line = bytes_eq line (object_text end_members)

-- a line may have no row: where not each need have one, any but the last of a listing
abbrev pub MayLack : Bool → List ℕ → Type 0
MayLack each line = (each ≡ false) × (is_end line ≡ false)

-- each line has its row, in their order; only where not each need have one, some have none, but never the last of a listing
pub data HaveRows (each cut : Bool) : List (List ℕ) → List (List ℕ) → Type 0 where
  none : HaveRows each cut [] []
  with_row : (line row : List ℕ) {lines rows : List (List ℕ)} → IsRow cut line row → HaveRows each cut lines rows → HaveRows each cut (line ∷ lines) (row ∷ rows)
  left_out : (line : List ℕ) {lines rows : List (List ℕ)} → MayLack each line → HaveRows each cut lines rows → HaveRows each cut (line ∷ lines) rows

-- the last n rows
abbrev pub last_rows : ℕ → List (List ℕ) → List (List ℕ)
last_rows n rows = drop (length rows - n) rows

-- Of the rows that the lines have, these are the last n. The last line of a listing isn't among them.
pub record HaveLast (n : ℕ) (each cut : Bool) (lines rows : List (List ℕ)) : Type 0 where
  pub unended : All (λ line. is_end line ≡ false) lines
  pub all : List (List ℕ)
  pub have : HaveRows each cut lines all
  pub are : rows ≡ last_rows n all

-- what comes behind lines of which the last rows alone are shown: the last line of the listing; or, where what is added is shown too, any
pub data ComesBehind (follows : Bool) : List (List ℕ) → Type 0 where
  added : (lines : List (List ℕ)) → follows ≡ true → ComesBehind follows lines
  ended : (line : List ℕ) (lines : List (List ℕ)) → is_end line ≡ true → ComesBehind follows (line ∷ lines)

-- of the rows of lines at least n, the last, are of a line from an entry on and of those behind that line
pub record HaveEnough (entry n : ℕ) (each cut : Bool) (lines rows : List (List ℕ)) : Type 0 where
  pub before : List (List ℕ)
  pub line : List ℕ
  pub behind : List (List ℕ)
  pub earlier : List (List ℕ)
  pub later : List (List ℕ)
  pub lines_are : lines ≡ before ++ line ∷ behind
  pub rows_are : rows ≡ earlier ++ later
  pub from : IsFrom entry line
  pub have : HaveRows each cut (line ∷ behind) later
  pub enough : n ≤ length later

-- Of the first lines the last n rows are shown, of the others each row that they have. Where the last are sought from an entry on,
-- the first lines have as many from there on.
pub record HaveLastFirst (n : ℕ) (rule : Rule) (lines rows : List (List ℕ)) : Type 0 where
  pub first : List (List ℕ)
  pub others : List (List ℕ)
  pub shown : List (List ℕ)
  pub more : List (List ℕ)
  pub lines_are : lines ≡ first ++ others
  pub rows_are : rows ≡ shown ++ more
  pub last : HaveLast n rule.shows_each rule.may_cut first shown
  pub enough : IfSome rule.first (λ entry. HaveEnough entry n rule.shows_each rule.may_cut first last.all)
  pub behind : ComesBehind rule.follows others
  pub have : HaveRows rule.shows_each rule.may_cut others more

-- the rows of lines, of which no row is held back
abbrev pub HavePassed : Option ℕ → Rule → List (List ℕ) → List (List ℕ) → Type 0
HavePassed None rule lines rows = HaveRows rule.shows_each rule.may_cut lines rows
HavePassed (Some n) rule lines rows = HaveLastFirst n rule lines rows

-- the rows of lines, of which so many are held back, or none
abbrev pub AreLaid : Option ℕ → Rule → List (List ℕ) → List (List ℕ) → Type 0
AreLaid None rule lines rows = HavePassed rule.last rule lines rows
AreLaid (Some n) rule lines rows = (rule.last ≡ Some n) × HaveLast n rule.shows_each rule.may_cut lines rows

-- of the rows of lines so many came since, where that is counted
abbrev pub HaveCome : Option ℕ → Rule → List (List ℕ) → List (List ℕ) → Type 0
HaveCome since rule lines rows = IfSome since (λ n. IfSome rule.first (λ entry. HaveEnough entry n rule.shows_each rule.may_cut lines rows))

-- the same, where so many came since
abbrev pub AreHeld : Option ℕ → Option ℕ → Rule → List (List ℕ) → List (List ℕ) → Type 0
AreHeld None since rule lines rows = HavePassed rule.last rule lines rows
AreHeld (Some n) since rule lines rows = (rule.last ≡ Some n) × (last : HaveLast n rule.shows_each rule.may_cut lines rows) × HaveCome since rule lines last.all

-- how many rows are held back behind a line
abbrev pub held_behind : List ℕ → Option ℕ → Option ℕ
held_behind line most = if is_end line then None else most

-- the texts of rows that are held back
abbrev pub rows_in : List (Vec ℕ Global) → List (List ℕ)
rows_in rows = map (λ row. row.items) rows

-- of rows of which so many are held back at most, the last; else all
abbrev pub kept_rows : Option ℕ → List (List ℕ) → List (List ℕ)
kept_rows None rows = rows
kept_rows (Some n) rows = last_rows n rows

-- while rows are held back none was sent
abbrev pub SendsNone : Option ℕ → List (List ℕ) → Type 0
SendsNone most sent = OnSome most (sent ≡ [])

-- rows, one behind the other
abbrev pub text_of_rows : List (List ℕ) → List ℕ
text_of_rows [] = []
text_of_rows (row ∷ rows) = row ++ text_of_rows rows

-- what a writer was given stands behind what it held, and with what is left it is all of these bytes
pub record Sends (now : Option (List ℕ)) (written : Given) (left all : List ℕ) : Type 0 where
  pub held : Appends written.start now written.bytes
  pub is : written.bytes ++ left ≡ all

-- lines that came, each with its line feed, and what came of the next one
abbrev pub given_lines : List (List ℕ) → List ℕ → List ℕ
given_lines lines rest = text_of_lines lines ++ rest

-- none of them has a line feed of its own
pub record AreLines (lines : List (List ℕ)) (rest : List ℕ) : Type 0 where
  pub each : All HasNoFeed lines
  pub last : HasNoFeed rest

abbrev pub bit : Bool → ℕ
bit false = 0
bit true = 1

-- a number that tells a number, where there is one
abbrev pub told_last : Option ℕ → ℕ
told_last None = 0
told_last (Some n) = suc n

-- numbers that tell a rule, and others behind them
abbrev pub with_rule : Rule → List ℕ → List ℕ
with_rule rule others = bit rule.shows_each ∷ bit rule.may_cut ∷ told_last rule.last ∷ bit rule.follows ∷ told_last rule.first ∷ others

-- A writer of rows holds, as a writer, which rows it has, what the one below held when it was made, and what it was given since.
unfoldable pub laid_contents : Rule → Option (List ℕ) → List ℕ → Option (List ℕ)
laid_contents rule start given = Some (with_rule rule (counted start ++ given))

-- The rows of lines went to a writer: the first bytes of them, or all. Where the last are sought from an entry on, nothing is
-- written while rows are held back.
pub record ShowsRows (rule : Rule) (whole : Type 0) (lines : List (List ℕ)) (was now : Option (List ℕ)) : Type 0 where
  pub rows : List (List ℕ)
  pub held : Option ℕ
  pub are : ∥ AreLaid held rule lines rows ∥₁
  pub written : List ℕ
  pub left : List ℕ
  pub front : written ++ left ≡ text_of_rows rows
  pub all : whole → left ≡ []
  pub none : OnSome held (OnSome rule.first (written ≡ []))
  pub shown : Appends was now written

pub Sends-prop : (now : Option (List ℕ)) (written : Given) (left all : List ℕ) → IsProp (Sends now written left all)
Sends-prop now written left all = λ p q. λ i. record {
  held = Appends-prop written.start now written.bytes p.held q.held i;
  is = Coded-set (coded_list coded_ℕ) _ _ p.is q.is i;
}

pub HasNoFeed-prop : (bytes : List ℕ) → IsProp (HasNoFeed bytes)
HasNoFeed-prop bytes = Π_prop (λ k. Π_prop (λ d. →_prop (→_prop (λ x y. absurd x))))

pub SendsNone-prop : (most : Option ℕ) (sent : List (List ℕ)) → IsProp (SendsNone most sent)
SendsNone-prop None sent = Unit-prop
SendsNone-prop (Some n) sent = Coded-set (coded_list (coded_list coded_ℕ)) _ _

pub AreLines-prop : (lines : List (List ℕ)) (rest : List ℕ) → IsProp (AreLines lines rest)
AreLines-prop lines rest = λ p q. λ i. record {
  each = (Π_prop (λ k. Π_prop (λ d. →_prop (HasNoFeed-prop _)))) p.each q.each i;
  last = HasNoFeed-prop rest p.last q.last i;
}
