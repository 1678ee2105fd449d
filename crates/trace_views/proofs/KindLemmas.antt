-- What one more message does to the rows of kinds.
use Rattle.std.proofs.Common.{◌≡◌, ℕ, ◌+◌, ◌<◌, ◌==◌, Bool, true, false, List, [], ◌∷◌, ◌++◌, Some, None, refl, sym, ap, ◌∙◌, subst, arith, set, get_or, length, ltb, bytes_eq, if◌then◌else◌, suc, zero}
use borrow.Author.Tests.{ne_eqb}
use Rattle.std.specs.Bool.{then_some}
use Rattle.std.specs.Cmp.Lexicographic.{bytes_decides}
use Rattle.std.specs.List.{cons_option, position, position_or_len}
use Rattle.std.proofs.lemmas.Bool.{ltb-false}
use Rattle.std.proofs.lemmas.List.Quantifiers.{position-Some}
use Rattle.std.proofs.lemmas.List.Sums.{fails_before_first}
use Rattle.trace_text.specs.MessageFacts.{Facts}
use Rattle.trace_views.proofs.CountLemmas.{how_many_more}
use Rattle.trace_times.proofs.KeyLemmas.{apart}
use Rattle.trace_views.specs.Counting.{Telling, Read, how_many, is_of, row_of}
use Rattle.trace_views.specs.Rows.{AreKindsCounted, counts_under, one_if}
use Rattle.trace_views.specs.declared.messages.KindRow.{KindRow}

-- the only count is one more, or 1 where there was none
abbrev with_one : List ℕ → List ℕ
with_one [] = 1 ∷ []
with_one (count ∷ counts) = (count + 1) ∷ counts

abbrev with_one_if : Bool → List ℕ → List ℕ
with_one_if b counts = if b then with_one counts else counts

module _ (kind : List ℕ) where
  abbrev is_kind : KindRow → Bool
  is_kind row = bytes_eq row.word.now kind

  -- a message of the kind is counted
  abbrev CountsOne : List KindRow → List KindRow → Type 0
  CountsOne old new = (word : List ℕ) → counts_under new word ≡ with_one_if (bytes_eq kind word) (counts_under old word)

  -- the row of the kind stands first
  here : (b : Bool) (n : ℕ) (counts : List ℕ) → cons_option (then_some b (n + 1)) counts ≡ with_one_if b (cons_option (then_some b n) counts)
  here true n counts = refl
  here false n counts = refl

  -- the row of another stands first
  there : (a b : Bool) (n : ℕ) (counts : List ℕ) → (a ≡ true → b ≡ false) → cons_option (then_some a n) (with_one_if b counts) ≡ with_one_if b (cons_option (then_some a n) counts)
  there true true n counts not_both = cc (not_both refl)
  there true false n counts not_both = refl
  there false b n counts not_both = refl

  -- there is no row
  added : (b : Bool) → cons_option (then_some b 1) [] ≡ with_one_if b []
  added true = refl
  added false = refl

  behind_other : (row : KindRow) (old new : List KindRow) → is_kind row ≡ false → CountsOne old new → CountsOne (row ∷ old) (row ∷ new)
  behind_other row old new differs counted word =
      ap (cons_option (then_some (bytes_eq row.word.now word) row.count)) (counted word)
      ∙ there (bytes_eq row.word.now word) (bytes_eq kind word) row.count (counts_under old word) (apart row.word.now kind word differs)

  row_counted : (rows : List KindRow) (place : ℕ) (row : KindRow) → place < length rows → get_or rows place row ≡ row → is_kind row ≡ true
      → ((k : ℕ) → k < place → is_kind (get_or rows k row) ≡ false) → CountsOne rows (set rows place (record row { count = row.count + 1 }))
  row_counted [] place row within is same before = absurd (omega (arith, within))
  row_counted (first ∷ rows) zero row within is same before =
      λ word. rw (is, (bytes_decides row.word.now kind).0 same) (here (bytes_eq kind word) row.count (counts_under rows word))
  row_counted (first ∷ rows) (suc place) row within is same before =
      behind_other first rows _ (before 0 (omega arith)) (row_counted rows place row (omega (arith, within)) is same (λ k lt. before (suc k) (omega (arith, lt))))

  row_added : (rows : List KindRow) (row : KindRow) → row.word.now ≡ kind → row.count ≡ 1 → ((k : ℕ) → k < length rows → is_kind (get_or rows k row) ≡ false)
      → CountsOne rows (rows ++ (row ∷ []))
  row_added [] row same one before = λ word. rw (same, one) (added (bytes_eq kind word))
  row_added (first ∷ rows) row same one before =
      behind_other first rows _ (before 0 (omega arith)) (row_added rows row same one (λ k lt. before (suc k) (omega (arith, lt))))

-- the only count of a word, after one message more
step : (b : Bool) (n : ℕ) → with_one_if b (cons_option (row_of n n) []) ≡ cons_option (row_of (n + one_if b) (n + one_if b)) []
step true zero = refl
step true (suc n) =
    let some : (suc n == 0) ≡ false = ne_eqb (suc n) 0 (λ e. omega arith) in
    let more : (suc n + 1 == 0) ≡ false = ne_eqb (suc n + 1) 0 (λ e. omega arith) in
    rw (some, more) refl
step false n = ap (λ m. cons_option (row_of m m) []) (omega arith)

module _ (old : List KindRow) (told : List Telling) (facts : Facts) (before : AreKindsCounted old told) where
  all_counted : (new : List KindRow) → CountsOne facts.kind old new → AreKindsCounted new (told ++ (Read facts ∷ []))
  all_counted new counted word =
      counted word ∙ ap (with_one_if (bytes_eq facts.kind word)) (before word) ∙ step (bytes_eq facts.kind word) (how_many (is_of word) told)
      ∙ sym (ap (λ n. cons_option (row_of n n) []) (how_many_more (is_of word) told facts))

  -- the row of the message's kind is counted once more
  pub counted_again : (place : ℕ) (row : KindRow) → position (is_kind facts.kind) old ≡ Some place → get_or old place row ≡ row
      → AreKindsCounted (set old place (record row { count = row.count + 1 })) (told ++ (Read facts ∷ []))
  counted_again place row found is =
      let at = position-Some (is_kind facts.kind) old place row found in
      all_counted _ (row_counted facts.kind old place row at.0 is (subst (λ r. is_kind facts.kind r ≡ true) is at.1) at.2)

  -- its kind is new
  pub counted_first : (row : KindRow) → position (is_kind facts.kind) old ≡ None → row.word.now ≡ facts.kind → row.count ≡ 1 → AreKindsCounted (old ++ (row ∷ [])) (told ++ (Read facts ∷ []))
  counted_first row none same one = all_counted _ (row_added facts.kind old row same one (go (ltb first (length old)) refl none))
    where
      first : ℕ
      first = position_or_len (is_kind facts.kind) old

      go : (b : Bool) → ltb first (length old) ≡ b → (if b then Some first else None) ≡ None → (k : ℕ) → k < length old → is_kind facts.kind (get_or old k row) ≡ false
      go true e none = cc
      go false e none = λ k lt. let le = ltb-false _ _ e in fails_before_first (is_kind facts.kind) old k row (omega (arith, le, lt))
