-- A receipt agrees with what every sound image of its port's store reads as.
use Rattle.std.proofs.Common.{◌≡◌, inl, inr, ℕ, zero, suc, ◌+◌, ◌-◌, ◌<◌, ◌≤◌, Bool, List, [], ◌∷◌, ◌++◌, length, map, take, drop, refl, sym, ◌∙◌, ap, subst, arith, append_assoc, length-append, take-append-drop}
use Rattle.std.specs.Prelude.{slice_get, Some}
use Rattle.std.proofs.lemmas.Bool.{cases_lt}
use Rattle.std.proofs.lemmas.List.{append-nil, drop_at, drop-append-le}
use Rattle.entry_codec.specs.Entries.{Entry, joined}
use Rattle.entry_codec.specs.Seen.{views}
use Rattle.trace_store.specs.Disk.{Image}
use Rattle.segment.specs.Specification.{Spec, File, Wrap, Timed}
use Rattle.recovery.specs.Items.{Item, Kept, kept, items_of, cut_runs}
use Rattle.recovery.specs.Views.{View, empty, runs_of, without, extend, total}
use Rattle.recovery.specs.Stores.{Reads, Blank, Holds}
use Rattle.recovery.specs.Stores as stores
use Rattle.recovery.proofs.Runs.{joined-runs_from}
use Rattle.recovery.proofs.Cuts.{kept-append, kept-entries, joined-cut_runs, kept-items_of}
use Rattle.recovery.proofs.Growth.{gone_and_kept, starting, total-extend}
use Rattle.recovery.proofs.Once.{one_reading}
use Rattle.trace_port.specs.Sound.{Sound, ReadsAs, covered_of}
use Rattle.trace_port.proofs.Sounds.{covered_rises, covered_within}
use Rattle.tracees.specs.Agreement.{Agrees, older, inside, newer, AreAgreed, IsAgreed}
use Rattle.tracees.specs.declared.receipt.Receipt.{Receipt}

-- ---- places in lists

get_front : (xs ys : List Entry) (j : ℕ) → j < length xs → slice_get (xs ++ ys) j ≡ slice_get xs j
get_front [] ys j h = absurd (omega (arith, h))
get_front (x ∷ xs) ys zero h = refl
get_front (x ∷ xs) ys (suc j) h = get_front xs ys j (omega (arith, h))

get_behind : (g j n : ℕ) (xs : List Entry) → n ≡ g + j → slice_get (drop g xs) j ≡ slice_get xs n
get_behind zero j n xs e = ap (λ (k : ℕ). slice_get xs k) (let same : j ≡ n = omega (arith, e) in same)
get_behind (suc g) j n [] e = refl
get_behind (suc g) j zero (x ∷ xs) e = absurd (omega (arith, e))
get_behind (suc g) j (suc n) (x ∷ xs) e = get_behind g j n xs (omega (arith, e))

get_middle : (front : List Entry) (e : Entry) (rest : List Entry) → slice_get (front ++ e ∷ rest) (length front) ≡ Some e
get_middle [] e rest = refl
get_middle (x ∷ front) e rest = get_middle front e rest

-- ---- the window of a view

-- of these entries, the first of which has the number start, a window that begins at the number first has the last
pub record IsEnd (start first : ℕ) (entries window : List Entry) : Type 0 where
  pub from : start ≤ first
  pub within : first - start ≤ length entries
  pub is : window ≡ drop (first - start) entries

end_without : (gone : ℕ) (v : View) (entries : List Entry) → joined v.runs ≡ entries → IsEnd v.first (without gone v).first entries (joined (without gone v).runs)
end_without gone v entries e =
    let before = joined (take gone v.runs) in
    let behind = joined (drop gone v.runs) in
    let all : before ++ behind ≡ entries = gone_and_kept gone v.runs ∙ e in
    let number : length before ≡ (v.first + length before) - v.first = omega arith in
    record {
      from = omega arith;
      within = omega (arith, length-append before behind, ap (λ (l : List Entry). length l) all);
      is = sym (drop_at before behind ((v.first + length before) - v.first) number) ∙ ap (λ (l : List Entry). drop ((v.first + length before) - v.first) l) all;
    }

-- a view that grows by items keeps the last of its entries and theirs
pub end_kept : (spec : Spec) (v0 : View) (xs : List Item) → IsEnd v0.first (extend spec v0 xs).first (joined v0.runs ++ kept xs) (joined (extend spec v0 xs).runs)
end_kept File v0 xs =
    let all = joined v0.runs ++ kept xs in
    let none : 0 ≡ v0.first - v0.first = omega arith in
    record {
      from = omega arith;
      within = omega arith;
      is = append-nil all ∙ ap (λ (n : ℕ). drop n all) none;
    }
end_kept (Wrap size count) v0 xs =
    let runs = runs_of size (joined v0.runs ++ kept xs) in
    end_without (length runs - count) (starting v0 runs) (joined v0.runs ++ kept xs) (joined-runs_from size [] (joined v0.runs ++ kept xs))
end_kept (Timed millis count) v0 xs =
    let runs = cut_runs (items_of v0.runs ++ xs) in
    let all : joined runs ≡ joined v0.runs ++ kept xs =
    joined-cut_runs (items_of v0.runs ++ xs) ∙ kept-append (items_of v0.runs) xs ∙ ap (λ (l : List Entry). l ++ kept xs) (kept-items_of v0.runs) in
    end_without (length runs - count) (starting v0 runs) (joined v0.runs ++ kept xs) all

-- ---- entries against a window

-- of these entries a window that begins at the number first has some that stand next to each other; after them nothing is covered
pub record IsPart (start first covered : ℕ) (entries window : List Entry) : Type 0 where
  pub beyond : List Entry
  pub from : start ≤ first
  pub is : window ++ beyond ≡ drop (first - start) entries
  pub covers : covered ≤ first + length window

agrees_at : (start first covered number : ℕ) (entries window front rest : List Entry) (e : Entry) → IsPart start first covered entries window → entries ≡ front ++ e ∷ rest → number ≡ start + length front → Agrees first window covered number e
agrees_at start first covered number entries window front rest e p splits at =
    elim (cases_lt number first) [
      | inl before ↦ older before
      | inr from ↦ elim (cases_lt number (first + length window)) [
        | inl within ↦
            inside from (sym (get_front window p.beyond (number - first) (omega (arith, from, within)))
            ∙ ap (λ (l : List Entry). slice_get l (number - first)) p.is
            ∙ get_behind (first - start) (number - first) (length front) entries (omega (arith, from, at, p.from))
            ∙ ap (λ (l : List Entry). slice_get l (length front)) splits
            ∙ get_middle front e rest)
        | inr past ↦ newer past (omega (arith, past, p.covers))
      ]
    ]

are_agreed : (start first covered number : ℕ) (entries window front es rest : List Entry) → IsPart start first covered entries window → entries ≡ front ++ (es ++ rest) → number ≡ start + length front → AreAgreed first window covered number es
are_agreed start first covered number entries window front [] rest p splits at = tt
are_agreed start first covered number entries window front (e ∷ es) rest p splits at = (
  agrees_at start first covered number entries window front (es ++ rest) e p splits at,
  are_agreed start first covered (number + 1) entries window (front ++ e ∷ []) es rest p (splits ∙ sym (append_assoc front (e ∷ []) (es ++ rest))) (omega (arith, at, length-append front (e ∷ []))),
)

-- what is kept of a front of a list is a part of all entries of the list, and has what is covered
part_kept : (spec : Spec) (v0 : View) (zs : List Item) (k covered : ℕ) → covered ≤ total (extend spec v0 (take k zs))
    → IsPart v0.first (extend spec v0 (take k zs)).first covered (joined v0.runs ++ kept zs) (joined (extend spec v0 (take k zs)).runs)
part_kept spec v0 zs k covered h =
    let xs = take k zs in
    let v = extend spec v0 xs in
    let end = end_kept spec v0 xs in
    let all : kept xs ++ kept (drop k zs) ≡ kept zs = sym (kept-append xs (drop k zs)) ∙ ap kept (take-append-drop k zs) in
    record {
      beyond = kept (drop k zs);
      from = end.from;
      is = ap (λ (l : List Entry). l ++ kept (drop k zs)) end.is
          ∙ sym (drop-append-le (v.first - v0.first) (joined v0.runs ++ kept xs) (kept (drop k zs)) end.within)
          ∙ ap (λ (l : List Entry). drop (v.first - v0.first) l) (append_assoc (joined v0.runs) (kept xs) (kept (drop k zs)) ∙ ap (λ (l : List Entry). joined v0.runs ++ l) all);
      covers = h;
    }

-- ---- one reading

abbrev shown : stores.StoreReading → View
shown (stores.DamagedAt file place) = empty
shown stores.Mixed = empty
shown stores.Sequence = empty
shown stores.Blank = empty
shown (stores.Holds spec view sealed) = view

-- an image reads as one view
pub reads_once : (spec : Spec) (image : Image) (one other : View) (sealed sealed' : Bool) → ReadsAs spec one sealed image → ReadsAs spec other sealed' image → one ≡ other
reads_once spec image one other sealed sealed' (inl r) (inl r') = ap shown (one_reading image (Holds spec one sealed) (Holds spec other sealed') r r')
reads_once spec image one other sealed sealed' (inl r) (inr blank) = (let bad : Blank ≡ Holds spec one sealed = one_reading image _ _ blank.0 r in absurd (cc))
reads_once spec image one other sealed sealed' (inr blank) (inl r) = (let bad : Blank ≡ Holds spec other sealed' = one_reading image _ _ blank.0 r in absurd (cc))
reads_once spec image one other sealed sealed' (inr blank) (inr blank') = blank.1 ∙ sym blank'.1

-- ---- receipts

kept_parts : (ys : List Item) (es : List Entry) (more : List Item) → kept (ys ++ (map Kept es ++ more)) ≡ kept ys ++ (es ++ kept more)
kept_parts ys es more = kept-append ys (map Kept es ++ more) ∙ ap (λ (l : List Entry). kept ys ++ l) (kept-append (map Kept es) more ∙ ap (λ (l : List Entry). l ++ kept more) (kept-entries es))

-- what is covered never falls
pub covered_grows : (v0 : View) (ys more : List Item) (c c' : ℕ) → c ≤ total v0 + length ys → c ≤ c' → covered_of v0 ys c ≤ covered_of v0 (ys ++ more) c'
covered_grows = covered_rises

-- a receipt of entries that were accepted after ys agrees with what a sound image of all items since reads as
pub receipt_agrees : (spec : Spec) (v0 : View) (ys : List Item) (es : List Entry) (more zs : List Item) (c : ℕ) (receipt : Receipt) (image : Image) (window : View) (sealed : Bool) → zs ≡ ys ++ (map Kept es ++ more)
    → views receipt.entries.items ≡ es → receipt.first ≡ total (extend spec v0 ys) → receipt.covered ≤ covered_of v0 zs c
    → Sound spec v0 zs c image → ReadsAs spec window sealed image → IsAgreed window.first (joined window.runs) receipt
receipt_agrees spec v0 ys es more zs c receipt image window sealed splits entries first covered sound reads =
    let v = extend spec v0 (take sound.k zs) in
    let same : v ≡ window = reads_once spec image v window sound.sealed sealed sound.reads reads in
    let part = part_kept spec v0 zs sound.k receipt.covered (omega (arith, covered, covered_within spec v0 zs c sound.k sound.covers)) in
    let all : joined v0.runs ++ kept zs ≡ (joined v0.runs ++ kept ys) ++ (es ++ kept more) =
    ap (λ (l : List Item). joined v0.runs ++ kept l) splits ∙ ap (λ (l : List Entry). joined v0.runs ++ l) (kept_parts ys es more) ∙ sym (append_assoc (joined v0.runs) (kept ys) (es ++ kept more)) in
    let number : receipt.first ≡ v0.first + length (joined v0.runs ++ kept ys) = omega (arith, first, total-extend spec v0 ys, length-append (joined v0.runs) (kept ys)) in
    let agreed : AreAgreed v.first (joined v.runs) receipt.covered receipt.first es =
    are_agreed v0.first v.first receipt.covered receipt.first (joined v0.runs ++ kept zs) (joined v.runs) (joined v0.runs ++ kept ys) es (kept more) part all number in
    subst (λ (w : View). IsAgreed w.first (joined w.runs) receipt) same (subst (λ (l : List Entry). AreAgreed v.first (joined v.runs) receipt.covered receipt.first l) (sym entries) agreed)
