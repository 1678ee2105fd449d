-- What the lines of a table tell of its rows, and how deep an array of values nests.
use Rattle.std.proofs.Common.{◌≡◌, ◌==◌, ℕ, ◌+◌, ◌≤◌, Bool, true, false, List, [], ◌∷◌, ◌++◌, Option, Some, None, Vec, map, get_or, sym, ◌∙◌, ap, refl, arith, IsPermutation, cond, length, length-append, append_assoc, if◌then◌else◌}
use Rattle.std.specs.declared.alloc.Global.{Global}
use Rattle.std.specs.Cmp.Lexicographic.{nat_list_eq_equiv}
use Rattle.std.specs.HashMap.{HashMap}
use Rattle.std.specs.List.{All, AllByRecursion, IsDistinct, cons_option, count_by}
use Rattle.std.specs.Bool.{then_some}
use Rattle.std.specs.Map.{keys_of, lookup}
use Rattle.std.specs.Option.{is_some, option_map}
use Rattle.std.specs.Str.{bytes_eq}
use Rattle.std.proofs.lemmas.Cmp.{on_equiv}
use Rattle.std.proofs.lemmas.List.Elements.{All-from_recursion, All-map, filter_map-append, recursion_from_All}
use Rattle.std.proofs.lemmas.List.Sorted.{All-permutation, IsPermutation-map, sum_by-IsPermutation}
use Rattle.std.proofs.lemmas.List.Sums.{sum_by-cons}
use Rattle.std.proofs.lemmas.Map.Entries.{lookup_from_place}
use Rattle.std.proofs.lemmas.Map.Keys.{IsDistinct-head, IsDistinct-tail}
use Rattle.std.proofs.lemmas.Option.{slice_get-get_or}
use Rattle.serde_json.specs.Data.{depth, items_depth}
use Rattle.serde_json.specs.View.{items_view, view}
use Rattle.serde_json.specs.declared.value.Value.{Value}
use Rattle.trace_views.specs.Counting.{row_of}
use Rattle.trace_views.specs.Lines.{kind_pairs, row_pairs}
use Rattle.trace_times.specs.Keyed.{row_at}
use Rattle.trace_views.specs.Rows.{counts_under, one_if}
use Rattle.trace_views.specs.declared.messages.KindRow.{KindRow}
use Rattle.trace_times.proofs.KeyLemmas.{key_eq}

-- with one item more
pub flat_push : (n : ℕ) (values : List Value) (value : Value) → items_depth (items_view values) ≤ n → depth (view value) ≤ n → items_depth (items_view (values ++ value ∷ [])) ≤ n
flat_push n [] value flat more = omega (arith, more)
flat_push n (first ∷ values) value flat more = let later = flat_push n values value (omega (arith, flat)) more in omega (arith, flat, later)

-- a row that is there has these counts
row_is : {C : Type 0} (n : ℕ) (c d : C) → Some c ≡ row_of n d → c ≡ d
row_is n c d e = go (n == 0) e
  where
    go : (b : Bool) → Some c ≡ (if b then None else Some d) → c ≡ d
    go true e = absurd (grind (arith, e))
    go false e = grind (arith, e)

module _ {R : Type 0} where
  abbrev how_many_with : List ℕ → List (Vec ℕ Global × R) → ℕ
  how_many_with text entries = count_by (bytes_eq text) (keys_of (row_pairs entries))

  -- no other key has the bytes of one
  none_later : (text : List ℕ) (key : Vec ℕ Global) (entries : List (Vec ℕ Global × R)) → bytes_eq text key.items ≡ true → AllByRecursion (λ other. key_eq key other ≡ false) (keys_of entries) → how_many_with text entries ≡ 0
  none_later text key [] same apart = refl
  none_later text key (entry ∷ entries) same apart =
      let differs : bytes_eq text entry.0.items ≡ false = nat_list_eq_equiv.congr text key.items entry.0.items same ∙ apart.0 in
      sum_by-cons _ entry.0.items (keys_of (row_pairs entries)) ∙ (let later = none_later text key entries same apart.1 in rw differs (omega (arith, later)))

  -- a text that has a row has one
  count_texts : (text : List ℕ) (entries : List (Vec ℕ Global × R)) → IsDistinct key_eq (keys_of entries) → how_many_with text entries ≡ one_if (is_some (lookup (λ key. bytes_eq text key.items) entries))
  count_texts text [] unique = refl
  count_texts text (entry ∷ entries) unique = sum_by-cons _ entry.0.items (keys_of (row_pairs entries)) ∙ go (count_texts text entries (IsDistinct-tail key_eq entry.0 (keys_of entries) unique)) (bytes_eq text entry.0.items) refl
    where
      go : how_many_with text entries ≡ one_if (is_some (lookup (λ key. bytes_eq text key.items) entries)) → (b : Bool) → bytes_eq text entry.0.items ≡ b → (if b then 1 else 0) + how_many_with text entries ≡ one_if (is_some (cond b (Some entry.1) (lookup (λ key. bytes_eq text key.items) entries)))
      go later true same = ap (λ n. 1 + n) (none_later text entry.0 entries same (IsDistinct-head key_eq entry.0 (keys_of entries) unique))
      go later false differs = omega (arith, later)

  -- what is told of each line by its row, is told of it by its text
  each_told : {C M : Type 0} (counts : R → C) (count : List ℕ → C) (members : List ℕ → C → M) (lines : List (List ℕ × R)) → AllByRecursion (λ line. counts line.1 ≡ count line.0) lines → map (λ line. members line.0 (counts line.1)) lines ≡ map (λ text. members text (count text)) (keys_of lines)
  each_told counts count members [] same = refl
  each_told counts count members (line ∷ lines) same = rw same.0 (ap (λ ms. members line.0 (count line.0) ∷ ms) (each_told counts count members lines same.1))

-- lines are rows in another order
module _ {R : Type 0} (rows lines : List (List ℕ × R)) (each : IsPermutation rows lines) where
  -- as many have a text
  texts_moved : (text : List ℕ) → count_by (bytes_eq text) (keys_of lines) ≡ count_by (bytes_eq text) (keys_of rows)
  texts_moved text = sum_by-IsPermutation _ (keys_of rows) (keys_of lines) (IsPermutation-map (λ line. line.0) rows lines each)

  -- and where each row has the counts of its text, so has each line
  members_moved : {C M : Type 0} (counts : R → C) (count : List ℕ → C) (members : List ℕ → C → M) → All (λ row. counts row.1 ≡ count row.0) rows → map (λ line. members line.0 (counts line.1)) lines ≡ map (λ text. members text (count text)) (keys_of lines)
  members_moved counts count members same = each_told counts count members lines (recursion_from_All _ lines (All-permutation (λ row. counts row.1 ≡ count row.0) rows lines each same))

-- of a table in which each text has the row that is counted of it
module _ {R C S : Type 0} (counts : R → C) (all : C → ℕ) (count : List ℕ → C) (rows : HashMap (Vec ℕ Global) R S) (unique : IsDistinct key_eq (keys_of rows.entries))
    (counted : (text : List ℕ) → option_map counts (row_at rows text) ≡ row_of (all (count text)) (count text)) where
  -- those have a row for which something is counted
  texts_counted : (text : List ℕ) → count_by (bytes_eq text) (keys_of (row_pairs rows.entries)) ≡ one_if (is_some (row_of (all (count text)) (count text)))
  texts_counted text = count_texts text rows.entries unique ∙ ap one_if (is_some_map (row_at rows text)) ∙ ap (λ row. one_if (is_some row)) (counted text)
    where
      is_some_map : (row : Option R) → is_some row ≡ is_some (option_map counts row)
      is_some_map None = refl
      is_some_map (Some row) = refl

  -- and it has what is counted
  rows_counted : All (λ row. counts row.1 ≡ count row.0) (row_pairs rows.entries)
  rows_counted =
      All-map (λ row. counts row.1 ≡ count row.0) (λ entry. (entry.0.items, entry.1)) rows.entries (λ k d below.
      let entry = get_or rows.entries k d in
      let found : row_at rows entry.0.items ≡ Some entry.1 = lookup_from_place (on_equiv (λ key. key.items) nat_list_eq_equiv) rows.entries k entry.0 entry.1 unique (slice_get-get_or rows.entries k d below) in
      row_is (all (count entry.0.items)) (counts entry.1) (count entry.0.items) (sym (ap (option_map counts) found) ∙ counted entry.0.items))

  -- so lines of these rows tell what is counted
  pub all_told : {M : Type 0} (members : List ℕ → C → M) (lines : List (List ℕ × R)) → IsPermutation (row_pairs rows.entries) lines
      → ((text : List ℕ) → count_by (bytes_eq text) (keys_of lines) ≡ one_if (is_some (row_of (all (count text)) (count text))))
      × (map (λ line. members line.0 (counts line.1)) lines ≡ map (λ text. members text (count text)) (keys_of lines))
  all_told members lines each =
      (λ text. texts_moved (row_pairs rows.entries) lines each text ∙ texts_counted text, members_moved (row_pairs rows.entries) lines each counts count members rows_counted)

-- of a list in which each word has the one row that is counted of it
module _ (count : List ℕ → ℕ) where
  abbrev counted_row : List ℕ → Option ℕ
  counted_row word = row_of (count word) (count word)

  -- a word has as many rows as counts
  how_many_under : (word : List ℕ) (rows : List KindRow) → count_by (bytes_eq word) (keys_of (kind_pairs rows)) ≡ length (counts_under rows word)
  how_many_under word [] = refl
  how_many_under word (row ∷ rows) = sum_by-cons _ row.word.now (keys_of (kind_pairs rows)) ∙ rw (nat_list_eq_equiv.symm word row.word.now) (go (bytes_eq row.word.now word) (how_many_under word rows))
    where
      go : (b : Bool) → count_by (bytes_eq word) (keys_of (kind_pairs rows)) ≡ length (counts_under rows word) → (if b then 1 else 0) + count_by (bytes_eq word) (keys_of (kind_pairs rows)) ≡ length (cons_option (then_some b row.count) (counts_under rows word))
      go true same = omega (arith, same)
      go false same = omega (arith, same)

  -- what stands among at most one is that
  the_one : (before : List ℕ) (n : ℕ) (behind : List ℕ) (row : Option ℕ) → before ++ n ∷ behind ≡ cons_option row [] → Some n ≡ row
  the_one [] n behind None is = absurd (cc)
  the_one [] n behind (Some m) is = cc
  the_one (m ∷ before) n behind None is = absurd (cc)
  the_one (m ∷ before) n behind (Some k) is = absurd (omega (arith, ap length is, length-append before (n ∷ behind)))

  kinds_counted : (before rows : List KindRow) → ((word : List ℕ) → counts_under (before ++ rows) word ≡ cons_option (counted_row word) []) → AllByRecursion (λ row. row.1 ≡ count row.0) (kind_pairs rows)
  kinds_counted before [] counted = tt
  kinds_counted before (row ∷ rows) counted =
      let word = row.word.now in
      let here : counts_under (row ∷ rows) word ≡ row.count ∷ counts_under rows word = ap (λ b. cons_option (then_some b row.count) (counts_under rows word)) (nat_list_eq_equiv.refl word) in
      let is : counts_under before word ++ row.count ∷ counts_under rows word ≡ cons_option (counted_row word) [] =
      ap (λ counts. counts_under before word ++ counts) (sym here) ∙ sym (filter_map-append (λ (other : KindRow). then_some (bytes_eq other.word.now word) other.count) before (row ∷ rows)) ∙ counted word in (
        row_is (count word) row.count (count word) (the_one (counts_under before word) row.count (counts_under rows word) (counted_row word) is),
        kinds_counted (before ++ row ∷ []) rows (λ other. ap (λ all. counts_under all other) (append_assoc before (row ∷ []) rows) ∙ counted other),
      )

  -- so lines of these rows tell what is counted
  pub kinds_told : {M : Type 0} (members : List ℕ → ℕ → M) (rows : List KindRow) (lines : List (List ℕ × ℕ)) → ((word : List ℕ) → counts_under rows word ≡ cons_option (counted_row word) []) → IsPermutation (kind_pairs rows) lines
      → ((word : List ℕ) → count_by (bytes_eq word) (keys_of lines) ≡ one_if (is_some (counted_row word))) × (map (λ line. members line.0 line.1) lines ≡ map (λ word. members word (count word)) (keys_of lines))
  kinds_told members rows lines counted each = (
    λ word. texts_moved (kind_pairs rows) lines each word ∙ how_many_under word rows ∙ ap length (counted word) ∙ only (counted_row word),
    members_moved (kind_pairs rows) lines each (λ n. n) count members (All-from_recursion _ (kind_pairs rows) (kinds_counted [] rows counted)),
  )
    where
      only : (row : Option ℕ) → length (cons_option row []) ≡ one_if (is_some row)
      only None = refl
      only (Some n) = refl
