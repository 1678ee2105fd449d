-- What rows are made of, and lists of rows.
use Rattle.std.proofs.Common.{◌≡◌, ◌≢◌, ℕ, ◌+◌, ◌-◌, ◌<◌, ◌≤◌, Bool, true, false, ◌||◌, ◌==◌, cond, Option, List, [], ◌∷◌, ◌++◌, map, length, take, drop, refl, sym, ◌∙◌, ap, subst, append_assoc, append-nil, arith}
use Rattle.std.proofs.lemmas.Bool.{or_parts, ltb-false, eqb-false}
use Rattle.std.proofs.lemmas.List.{drop-drop, take-append-drop, drop_all, length-drop}
use Rattle.std.proofs.Math.Seq.{take-length}
use Rattle.std.proofs.lemmas.List.Elements.{All-append, All-map, All-cons, All-nil, All-push}
use Rattle.std.specs.Prelude.{nat_lt, zero, suc, slice_set, slice_index_or, is_some, Some, None, option_and_then, option_to_list, codes, IsUtf8, IfSome, MatchOption}
use Rattle.std.specs.declared.vec.Vec.{Vec}
use Rattle.std.specs.declared.alloc.Global.{Global}
use Rattle.json.specs.Json.{Json, document}
use Rattle.json.specs.Find.{get, as_str}
use Rattle.std.specs.List.{All}
use Rattle.std.specs.Io.KnownBytes.{Appends}
use Rattle.std.proofs.KnownBytes.{Appends-trans, Appends-nil}
use Rattle.shown_listings.specs.declared.given.Given.{Given}
use Rattle.shown_listings.specs.declared.look.Rule.{Rule}
use Rattle.shown_listings.specs.Ends.{text_of_lines, counted}
use Rattle.shown_listings.specs.Rows.{shown_byte, unfed_byte, cut_sign, ShowsText, whole, front, HasNoFeed, ShowsInRow, IsRow, MayLack, HaveRows, none, with_row, left_out, text_of_rows, Sends, AreLines, given_lines, text_in, rows_in, with_rule, laid_contents}

abbrev other : ℕ → Type 0
other byte = byte ≢ 10

-- No byte is shown as a line feed.
shown-other : (byte : ℕ) → shown_byte byte ≢ 10
shown-other byte =
    (elim (nat_lt byte 32 || byte == 127) as (λ b. (nat_lt byte 32 || byte == 127) ≡ b → cond b 32 byte ≢ 10) [
      | true ↦ λ e h. omega arith
      | false ↦ λ e h. let above : 32 ≤ byte = ltb-false byte 32 (or_parts (nat_lt byte 32) (byte == 127) e).0 in omega arith
    ]) refl

not_ten : (byte : ℕ) → (byte == 10) ≡ false → byte ≢ 10
not_ten byte e h = eqb-false byte 10 e h

unfed-other : (byte : ℕ) → unfed_byte byte ≢ 10
unfed-other byte =
    (elim (byte == 10) as (λ b. (byte == 10) ≡ b → cond b 32 byte ≢ 10) [
      | true ↦ λ e h. omega arith
      | false ↦ λ e h. not_ten byte e h
    ]) refl

pub no_feed-shown : (bytes : List ℕ) → HasNoFeed (map shown_byte bytes)
no_feed-shown bytes = All-map other shown_byte bytes (λ k d h. shown-other (slice_index_or bytes k d))

pub no_feed-unfed : (bytes : List ℕ) → HasNoFeed (map unfed_byte bytes)
no_feed-unfed bytes = All-map other unfed_byte bytes (λ k d h. unfed-other (slice_index_or bytes k d))

no_feed-sign : HasNoFeed cut_sign
no_feed-sign = All-cons other 226 (128 ∷ 166 ∷ []) (λ e. omega arith) (All-cons other 128 (166 ∷ []) (λ e. omega arith) (All-cons other 166 [] (λ e. omega arith) (All-nil other)))

no_feed-text : (cut : Bool) (text part : List ℕ) → ShowsText cut text part → HasNoFeed part
no_feed-text cut text _ whole = no_feed-shown text
no_feed-text cut text _ (front n may) = All-append other (map shown_byte (take n text)) cut_sign (no_feed-shown (take n text)) no_feed-sign

-- One byte more is changed in its place.
changed-more : (f : ℕ → ℕ) (bytes : List ℕ) (i d : ℕ) → i < length bytes
    → slice_set (map f (take i bytes) ++ drop i bytes) i (f (slice_index_or (map f (take i bytes) ++ drop i bytes) i d)) ≡ map f (take (suc i) bytes) ++ drop (suc i) bytes
changed-more f [] i d less = absurd (omega arith)
changed-more f (b ∷ bytes) zero d less = refl
changed-more f (b ∷ bytes) (suc i) d less = ap (λ l. f b ∷ l) (changed-more f bytes i d (omega arith))

pub changed-on : (f : ℕ → ℕ) (was now : List ℕ) (i d byte : ℕ) → i < length was → now ≡ map f (take i was) ++ drop i was → byte ≡ f (slice_index_or now i d)
    → slice_set now i byte ≡ map f (take (i + 1) was) ++ drop (i + 1) was
changed-on f was now i d byte less is same =
    let next : suc i ≡ i + 1 = omega arith in
    ap (λ b. slice_set now i b) same ∙ ap (λ l. slice_set l i (f (slice_index_or l i d))) is ∙ changed-more f was i d less ∙ ap (λ n. map f (take n was) ++ drop n was) next

-- Where less than all is shown, there is no room for more.
pub cut-may : (bytes columns : Option ℕ) (count n : ℕ) → (bytes ≡ None → columns ≡ None → count ≡ n) → count < n → (is_some bytes || is_some columns) ≡ true
cut-may None None count n is less = let same : count ≡ n = is refl refl in absurd (omega arith)
cut-may None (Some columns) count n is less = refl
cut-may (Some bytes) columns count n is less = refl

-- A text that is shown so may be shown so where more may be cut.
pub shows-weaker : (cut may : Bool) (text part : List ℕ) → (cut ≡ true → may ≡ true) → ShowsText cut text part → ShowsText may text part
shows-weaker cut may text _ more whole = whole
shows-weaker cut may text _ more (front n so) = front n (more so)

pub in_row-weaker : (cut may : Bool) (text row : List ℕ) → (cut ≡ true → may ≡ true) → ShowsInRow cut text row → ShowsInRow may text row
in_row-weaker cut may text row more is = record {
  before = is.before;
  part = is.part;
  after = is.after;
  shows = shows-weaker cut may text is.part more is.shows;
  is = is.is;
  one_line = is.one_line;
}

-- The parts make a row.
pub row-made : (cut : Bool) (text number colour rest part after row : List ℕ) → ShowsText cut text part
    → row ≡ ((((map unfed_byte number ++ map unfed_byte colour) ++ map unfed_byte rest) ++ part) ++ map unfed_byte after) ++ 10 ∷ [] → ShowsInRow cut text row
row-made cut text number colour rest part after row shows is =
    let before = (map unfed_byte number ++ map unfed_byte colour) ++ map unfed_byte rest in
    let before-one_line : HasNoFeed before = All-append other _ _ (All-append other _ _ (no_feed-unfed number) (no_feed-unfed colour)) (no_feed-unfed rest) in
    record {
      before = before;
      part = part;
      after = map unfed_byte after;
      shows = shows;
      is = is;
      one_line = All-append other (before ++ part) (map unfed_byte after) (All-append other before part before-one_line (no_feed-text cut text part shows)) (no_feed-unfed after);
    }

-- One line more has its row.
rows-grown : (each cut : Bool) (lines rows : List (List ℕ)) (l r : List ℕ) → IsRow cut l r → HaveRows each cut lines rows → HaveRows each cut (lines ++ l ∷ []) (rows ++ r ∷ [])
rows-grown each cut _ _ l r is none = with_row l r is none
rows-grown each cut _ _ l r is (with_row line first {lines} {rows} was more) = with_row line first was (rows-grown each cut lines rows l r is more)
rows-grown each cut _ _ l r is (left_out line {lines} {rows} so more) = left_out line so (rows-grown each cut lines rows l r is more)

-- One line more has none.
rows-left : (each cut : Bool) (lines rows : List (List ℕ)) (l : List ℕ) → MayLack each l → HaveRows each cut lines rows → HaveRows each cut (lines ++ l ∷ []) rows
rows-left each cut _ _ l lacks none = left_out l lacks none
rows-left each cut _ _ l lacks (with_row line first {lines} {rows} was more) = with_row line first was (rows-left each cut lines rows l lacks more)
rows-left each cut _ _ l lacks (left_out line {lines} {rows} so more) = left_out line so (rows-left each cut lines rows l lacks more)

-- One line more has its row, or none.
pub line-laid : (each cut : Bool) (lines rows : List (List ℕ)) (line : List ℕ) (row : Option (Vec ℕ Global)) → MatchOption row (MayLack each line) (λ r. IsRow cut line r.items)
    → HaveRows each cut lines rows → HaveRows each cut (lines ++ line ∷ []) (rows ++ rows_in (option_to_list row))
line-laid each cut lines rows line None lacks have = subst (λ rs. HaveRows each cut (lines ++ line ∷ []) rs) (sym (append-nil rows)) (rows-left each cut lines rows line lacks have)
line-laid each cut lines rows line (Some row) is have = rows-grown each cut lines rows line row.items is have

lines-grown : (lines : List (List ℕ)) (line : List ℕ) → text_of_lines (lines ++ line ∷ []) ≡ text_of_lines lines ++ (line ++ 10 ∷ [])
lines-grown [] line = refl
lines-grown (first ∷ lines) line =
    ap (λ l. first ++ 10 ∷ l) (lines-grown lines line) ∙ sym (append_assoc first (10 ∷ text_of_lines lines) (line ++ 10 ∷ []))

pub text_of_rows-append : (rows more : List (List ℕ)) → text_of_rows (rows ++ more) ≡ text_of_rows rows ++ text_of_rows more
text_of_rows-append [] more = refl
text_of_rows-append (first ∷ rows) more = ap (λ l. first ++ l) (text_of_rows-append rows more) ∙ sym (append_assoc first (text_of_rows rows) (text_of_rows more))

text_of_rows-grown : (rows : List (List ℕ)) (r : List ℕ) → text_of_rows (rows ++ r ∷ []) ≡ text_of_rows rows ++ r
text_of_rows-grown rows r = text_of_rows-append rows (r ∷ []) ∙ ap (λ l. text_of_rows rows ++ l) (append-nil r)

-- What is behind a place is all of it.
pub rest-whole : (n : ℕ) (bytes : List ℕ) → take (length bytes - n) (drop n bytes) ≡ drop n bytes
rest-whole n bytes = ap (λ k. take k (drop n bytes)) (sym (length-drop n bytes)) ∙ take-length (drop n bytes)

-- A part of what is left was taken.
pub sends-more : (was now : Option (List ℕ)) (written later : Given) (n count : ℕ) (bytes all : List ℕ) → Sends was written (drop n bytes) all
    → Appends was now (take count (drop n bytes)) → later ≡ record written { bytes = written.bytes ++ take count (drop n bytes) } → Sends now later (drop (n + count) bytes) all
sends-more was now written later n count bytes all so took came =
    let part = take count (drop n bytes) in
    let rest : drop count (drop n bytes) ≡ drop (n + count) bytes = drop-drop count n bytes in
    let is : (written.bytes ++ part) ++ drop (n + count) bytes ≡ all = append_assoc written.bytes part (drop (n + count) bytes)
    ∙ ap (λ l. written.bytes ++ (part ++ l)) (sym rest) ∙ ap (λ l. written.bytes ++ l) (take-append-drop count (drop n bytes)) ∙ so.is in
    let P : Given → Type 0 = λ g. Sends now g (drop (n + count) bytes) all in
    subst P (sym came) (record { held = Appends-trans written.start was now written.bytes part so.held took; is = is })

-- Nothing came to a new writer.
pub lines-new : (lines : List (List ℕ)) (line : List ℕ) → lines ≡ [] → line ≡ [] → AreLines lines line
lines-new lines line none_whole none_left =
    let P : List (List ℕ) → Type 0 = λ l. All HasNoFeed l in
    let Q : List ℕ → Type 0 = λ l. HasNoFeed l in
    record { each = subst P (sym none_whole) (All-nil HasNoFeed); last = subst Q (sym none_left) (All-nil other) }

pub sends-new : (written : Given) (start now : Option (List ℕ)) (left : List ℕ) (rows : List (List ℕ)) → (written.start ≡ start) × (written.bytes ≡ []) → start ≡ now → left ≡ [] → rows ≡ [] → Sends now written left (text_of_rows rows)
sends-new written start now left rows made same none_left no_rows = record {
  held = subst (Appends written.start now) (sym made.1) (subst (λ later. Appends written.start later []) (made.0 ∙ same) (Appends-nil written.start));
  is = ap (λ l. l ++ left) made.1 ∙ none_left ∙ ap text_of_rows (sym no_rows);
}

-- ---- what a row tells

pub told-text : (line : List ℕ) (object : Option Json) (text : List ℕ) → Some text ≡ option_and_then as_str (option_and_then (get (codes "text")) object) → (IsUtf8 line → object ≡ document line) → IsUtf8 line
    → IfSome (text_in line) (λ told. told ≡ text)
unfolding text_in
told-text line object text is reads utf8 =
    let e : Some text ≡ text_in line = is ∙ ap (λ o. option_and_then as_str (option_and_then (get (codes "text")) o)) (reads utf8) in
    subst (λ o. IfSome o (λ told. told ≡ text)) e refl

pub told-none : (line : List ℕ) (object : Option Json) (text : List ℕ) → None ≡ option_and_then as_str (option_and_then (get (codes "text")) object) → (IsUtf8 line → object ≡ document line) → IsUtf8 line
    → IfSome (text_in line) (λ told. told ≡ text)
unfolding text_in
told-none line object text is reads utf8 =
    let e : None ≡ text_in line = is ∙ ap (λ o. option_and_then as_str (option_and_then (get (codes "text")) o)) (reads utf8) in
    subst (λ o. IfSome o (λ told. told ≡ text)) e tt

pub row-told : (cut : Bool) (line text row : List ℕ) → (IsUtf8 line → IfSome (text_in line) (λ told. told ≡ text)) → ShowsInRow cut text row → IsRow cut line row
row-told cut line text row same shows = record { text = text; shows = shows; same = same }

pub matched : {A : Type 0} (r : Option A) (N : Type 0) (P Q : A → Type 0) → ((x : A) → P x → Q x) → MatchOption r N P → MatchOption r N Q
matched None N P Q f is = is
matched (Some x) N P Q f is = f x is

-- ---- a line more

-- The line that came whole has no line feed of its own.
pub lines-laid : (lines later : List (List ℕ)) (line : List ℕ) → AreLines lines line → later ≡ lines ++ line ∷ [] → AreLines later line
lines-laid lines later line are came =
    let P : List (List ℕ) → Type 0 = λ l. All HasNoFeed l in
    record { each = subst P (sym came) (All-push HasNoFeed lines line are.each are.last); last = are.last }

-- It is what was given, with what came of it before.
pub given-grown : (lines later : List (List ℕ)) (line rest left : List ℕ) → later ≡ lines ++ (line ++ rest) ∷ [] → left ≡ [] → given_lines later left ≡ given_lines lines line ++ (rest ++ 10 ∷ [])
given-grown lines later line rest left came cleared =
    let text = text_of_lines lines in
    ap (λ l. given_lines l left) came ∙ ap (λ l. text_of_lines (lines ++ (line ++ rest) ∷ []) ++ l) cleared ∙ append-nil (text_of_lines (lines ++ (line ++ rest) ∷ []))
    ∙ lines-grown lines (line ++ rest) ∙ ap (λ l. text ++ l) (append_assoc line rest (10 ∷ [])) ∙ sym (append_assoc text line (rest ++ 10 ∷ []))

-- All was sent, and the next row is to be.
pub sends-next : (now : Option (List ℕ)) (written : Given) (taken : ℕ) (sent row : List ℕ) (rows later : List (List ℕ)) → length sent ≤ taken → Sends now written (drop taken sent) (text_of_rows rows) → later ≡ rows ++ row ∷ []
    → Sends now written row (text_of_rows later)
sends-next now written taken sent row rows later all was came =
    let is : written.bytes ≡ text_of_rows rows = sym (append-nil written.bytes) ∙ ap (λ l. written.bytes ++ l) (sym (drop_all taken sent all)) ∙ was.is in
    record {
      held = was.held;
      is = ap (λ l. l ++ row) is ∙ sym (text_of_rows-grown rows row) ∙ sym (ap text_of_rows came);
    }

-- What a writer holds grows by what is given.
pub contents-grown : (rule rule_then : Rule) (start later : Option (List ℕ)) (given after part : List ℕ) → rule_then ≡ rule → later ≡ start → after ≡ given ++ part
    → Appends (laid_contents rule start given) (laid_contents rule_then later after) part
unfolding laid_contents
contents-grown rule rule_then start later given after part same_rule same grown =
    let whole_text : counted later ++ after ≡ (counted start ++ given) ++ part = ap (λ s. counted s ++ after) same ∙ ap (λ l. counted start ++ l) grown ∙ sym (append_assoc (counted start) given part) in
    ap (λ (r : Rule). with_rule r (counted later ++ after)) same_rule ∙ ap (λ l. with_rule rule l) whole_text
