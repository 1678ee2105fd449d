-- These lemmas are about whole lines, none of which is empty.
use Rattle.std.proofs.Common.{◌≡◌, ◌≢◌, ◌<◌, ℕ, Bool, true, false, List, [], ◌∷◌, ◌++◌, ◌==◌, refl, ◌∙◌, ap, append-nil, arith}
use Rattle.std.specs.List.{All}
use Rattle.std.proofs.lemmas.Bool.{ne_eqb, and_right}
use Rattle.std.proofs.lemmas.List.Elements.{All-head, All-tail}
use Rattle.shown_listings.specs.Ends.{ends_empty, has_empty, before_empty, is_fresh_behind, IsFilledLine, IsFilledLines, text_of_lines}
use Rattle.shown_listings.proofs.Ending.{has_on, has_here, before_here, fresh_more, has_more, before_more, before_none}

-- A byte of a line is no line feed.
abbrev other_byte : ℕ → Type 0
other_byte byte = byte ≢ 10

-- No empty line ends in a line without a line feed.
line-none : (fresh : Bool) (line : List ℕ) → All other_byte line → has_empty fresh line ≡ false
unfolding has_empty
line-none fresh [] other = refl
line-none fresh (byte ∷ line) other =
    let is : ends_empty fresh byte ≡ false = and_right fresh (byte == 10) (ne_eqb byte 10 (All-head other_byte byte line other)) in
    has_on fresh byte line is ∙ line-none (byte == 10) line (All-tail other_byte byte line other)

-- No line begins behind it, where it comes within a line.
within-line : (line : List ℕ) → All other_byte line → is_fresh_behind false line ≡ false
unfolding is_fresh_behind
within-line [] other = refl
within-line (byte ∷ line) other = ap (λ b. is_fresh_behind b line) (ne_eqb byte 10 (All-head other_byte byte line other)) ∙ within-line line (All-tail other_byte byte line other)

-- No line begins behind it, where it isn't empty.
behind-line : (line : List ℕ) → IsFilledLine line → is_fresh_behind true line ≡ false
unfolding is_fresh_behind
behind-line [] is = absurd (let some : 0 < 0 = is.some in omega arith)
behind-line (byte ∷ line) is = ap (λ b. is_fresh_behind b line) (ne_eqb byte 10 (All-head other_byte byte line is.no_feed)) ∙ within-line line (All-tail other_byte byte line is.no_feed)

-- The line feed that ends such a line ends no empty line.
feed-has : (more : List ℕ) → has_empty false (10 ∷ more) ≡ has_empty true more
feed-has more = has_on false 10 more refl

-- A line begins behind that line feed.
feed-fresh : (more : List ℕ) → is_fresh_behind false (10 ∷ more) ≡ is_fresh_behind true more
unfolding is_fresh_behind
feed-fresh more = refl

-- No empty line ends in such lines.
lines-none : (lines : List (List ℕ)) → All IsFilledLine lines → has_empty true (text_of_lines lines) ≡ false
unfolding has_empty
lines-none [] each = refl
lines-none (line ∷ lines) each =
    let is = All-head IsFilledLine line lines each in
    let more = text_of_lines lines in
    has_more true line (10 ∷ more) (line-none true line is.no_feed) ∙ ap (λ b. has_empty b (10 ∷ more)) (behind-line line is) ∙ feed-has more ∙ lines-none lines (All-tail IsFilledLine line lines each)

-- A line begins behind them.
behind-lines : (lines : List (List ℕ)) → All IsFilledLine lines → is_fresh_behind true (text_of_lines lines) ≡ true
unfolding is_fresh_behind
behind-lines [] each = refl
behind-lines (line ∷ lines) each =
    let is = All-head IsFilledLine line lines each in
    let more = text_of_lines lines in
    fresh_more true line (10 ∷ more) ∙ ap (λ b. is_fresh_behind b (10 ∷ more)) (behind-line line is) ∙ feed-fresh more ∙ behind-lines lines (All-tail IsFilledLine line lines each)

-- There is no empty line in a text of such lines.
filled-none : (text : List ℕ) → IsFilledLines text → has_empty true text ≡ false
filled-none text is = ap (has_empty true) is.is ∙ lines-none is.lines is.each

-- So all of it stands before an empty line.
pub filled-whole : (text : List ℕ) → IsFilledLines text → (before_empty true text ≡ text) × (has_empty true text ≡ false)
filled-whole text is = let none = filled-none text is in (before_none true text none, none)

-- An empty line behind it is the first.
pub filled-ends : (text more : List ℕ) → IsFilledLines text → (before_empty true (text ++ 10 ∷ more) ≡ text) × (has_empty true (text ++ 10 ∷ more) ≡ true)
filled-ends text more is =
    let none = filled-none text is in
    let fresh : is_fresh_behind true text ≡ true = ap (is_fresh_behind true) is.is ∙ behind-lines is.lines is.each in (
      before_more true text (10 ∷ more) none ∙ ap (λ b. text ++ before_empty b (10 ∷ more)) fresh ∙ ap (λ l. text ++ l) (before_here true 10 more refl) ∙ append-nil text,
      has_more true text (10 ∷ more) none ∙ ap (λ b. has_empty b (10 ∷ more)) fresh ∙ has_here true 10 more refl,
    )
