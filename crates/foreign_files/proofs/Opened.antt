-- Open files with their headers.
use Rattle.std.proofs.Common.{◌≡◌, ◌≢◌, ◌⊎◌, inl, inr, ⊎_elim, ℕ, zero, suc, ◌+◌, ◌<◌, ◌≤◌, Some, None, Option, List, [], ◌∷◌, ◌++◌, length, take, get_or, refl, sym, subst, arith}
use Rattle.std.proofs.lemmas.List.{take_all, take_more}
use Rattle.std.specs.List.{AllByRecursion}
use Rattle.trace_store.specs.Disk.{Image, file_of}
use Rattle.segment.specs.Segments.{Header}
use Rattle.segment.specs.Seen.{header_seen}
use Rattle.foreign_files.specs.declared.open_files.OpenFile.{OpenFile}
use Rattle.foreign_files.specs.Headers.{OpensWith, IsHeaderOf}
use Rattle.segment.specs.declared.header.SegHeader.{SegHeader}
use Rattle.segment.specs.declared.specification.StoreSpec.TheVariants as kinds
use Rattle.std.proofs.lemmas.Bool.{cases_lt}
use Rattle.foreign_files.proofs.HeadersTold.{same_header}
use Rattle.foreign_files.specs.Disagreeing.{HasNoneBetween, HasNone, IsNewest, GoesOn, AreApart, IsOpenFile, IsAmong, AreOpenFiles, IsLeastAbove}

-- ---- lists

-- what a read past the end gives
abbrev pub no_open_file : OpenFile
no_open_file = record { file = 0; header = record { version = 0; spec = kinds.File; generation = 0; entries_before = 0; drops_before = 0 } }

all_then : {X : Type 0} (P : X → Type 0) (xs : List X) (x : X) → AllByRecursion P xs → P x → AllByRecursion P (xs ++ x ∷ [])
all_then P [] x all has = (has, tt)
all_then P (y ∷ xs) x all has = (all.0, all_then P xs x all.1 has)

all_leads : {X : Type 0} (P Q : X → Type 0) (xs : List X) → ((x : X) → P x → Q x) → AllByRecursion P xs → AllByRecursion Q xs
all_leads P Q [] leads all = tt
all_leads P Q (x ∷ xs) leads all = (leads x all.0, all_leads P Q xs leads all.1)

-- ---- the least generation above one

-- a file more, which isn't nearer
pub least_kept : (g : ℕ) (files : List OpenFile) (f : OpenFile) (next : Option OpenFile) → IsLeastAbove g files next → ((n : OpenFile) → next ≡ Some n → (f.header.generation ≤ g) ⊎ (n.header.generation ≤ f.header.generation)) → (next ≡ None → f.header.generation ≤ g)
    → IsLeastAbove g (files ++ f ∷ []) next
least_kept g files f None least some none = all_then (λ f. f.header.generation ≤ g) files f least (none refl)
least_kept g files f (Some n) least some none = (least.0, all_then (λ f. (f.header.generation ≤ g) ⊎ (n.header.generation ≤ f.header.generation)) files f least.1 (some n refl))

-- ---- all open files

-- what holds of each of them holds of each open file with its header
pub among : (P : ℕ → Header → Type 0) (files : List OpenFile) (file : ℕ) (h : Header) → AllByRecursion (λ f. P f.file (header_seen f.header)) files → IsAmong file h files → P file h
among P [] file h all is = absurd is
among P (f ∷ files) file h all (inl here) = subst (P file) here.1 (subst (λ k. P k (header_seen f.header)) here.0 all.0)
among P (f ∷ files) file h all (inr later) = among P files file h all.1 later

pub none_between : (image : Image) (files : List OpenFile) (g : ℕ) (next : OpenFile) → AreOpenFiles image files → IsLeastAbove g files (Some next) → HasNoneBetween image g next.header.generation
none_between image files g next are least file h has = among (λ k x. (x.generation ≤ g) ⊎ (next.header.generation ≤ x.generation)) files file h least.1 (are.all file h has)

pub none_of : (image : Image) (files : List OpenFile) (g : ℕ) → AllByRecursion (λ f. f.header.generation ≢ g) files → AreOpenFiles image files → HasNone image g
none_of image files g all are file h has = among (λ k x. x.generation ≢ g) files file h all (are.all file h has)

pub none_later : (image : Image) (files : List OpenFile) (g : ℕ) → AllByRecursion (λ f. f.header.generation ≤ g) files → AreOpenFiles image files → IsNewest image g
none_later image files g all are file h has = among (λ k x. x.generation ≤ g) files file h all (are.all file h has)

-- one more of them
pub all_to : (P : OpenFile → Type 0) (files : List OpenFile) (i : ℕ) → i < length files → AllByRecursion P (take i files) → P (get_or files i no_open_file) → AllByRecursion P (take (i + 1) files)
all_to P files i within all has = subst (AllByRecursion P) (sym (take_more files i no_open_file within)) (all_then P (take i files) (get_or files i no_open_file) all has)

-- all of them
pub all_of : (P : OpenFile → Type 0) (files : List OpenFile) (i : ℕ) → length files ≤ i → AllByRecursion P (take i files) → AllByRecursion P files
all_of P files i past all = subst (AllByRecursion P) (take_all i files past) all

pub among_then : (files : List OpenFile) (f : OpenFile) (file : ℕ) (h : Header) → IsAmong file h files → IsAmong file h (files ++ f ∷ [])
among_then [] f file h is = absurd is
among_then (x ∷ files) f file h (inl here) = inl here
among_then (x ∷ files) f file h (inr later) = inr (among_then files f file h later)

pub among_last : (files : List OpenFile) (f : OpenFile) → IsAmong f.file (header_seen f.header) (files ++ f ∷ [])
among_last [] f = inl (refl, refl)
among_last (x ∷ files) f = inr (among_last files f)

pub open_then : (image : Image) (files : List OpenFile) (f : OpenFile) → AllByRecursion (IsOpenFile image) files → IsOpenFile image f → AllByRecursion (IsOpenFile image) (files ++ f ∷ [])
open_then image files f = all_then (IsOpenFile image) files f

pub within_then : (count : ℕ) (files : List OpenFile) (f : OpenFile) → AllByRecursion (λ x. x.file < count) files → f.file < count → AllByRecursion (λ x. x.file < count) (files ++ f ∷ [])
within_then count files f = all_then (λ x. x.file < count) files f

-- ---- one of them

pub all_at : (P : OpenFile → Type 0) (files : List OpenFile) (i : ℕ) → AllByRecursion P files → i < length files → P (get_or files i no_open_file)
all_at P [] i all within = absurd (omega (arith, within))
all_at P (f ∷ files) zero all within = all.0
all_at P (f ∷ files) (suc i) all within = all_at P files i all.1 (omega (arith, within))

-- the next generation there is doesn't go on from it
pub apart : (image : Image) (files : List OpenFile) (f next : OpenFile) → AreOpenFiles image files → IsOpenFile image f → IsOpenFile image next → IsLeastAbove f.header.generation files (Some next) → (GoesOn (file_of image f.file) (header_seen next.header) → ⊥) → AreApart image f.file next.file
apart image files f next are own other least broken = record {
  first = header_seen f.header;
  second = header_seen next.header;
  has_first = own;
  has_second = other;
  why = inr (record { later = least.0; near = none_between image files f.header.generation next are least; broken = broken });
}

-- ---- one file more is looked at

module _ (image : Image) (files : List OpenFile) (n : ℕ) (so_far : (k : ℕ) (h : Header) → k < n → OpensWith (file_of image k) h → IsAmong k h files) where
  pub open_more : (header : SegHeader) → OpensWith (file_of image n) (header_seen header) → (k : ℕ) (h : Header) → k < n + 1 → OpensWith (file_of image k) h → IsAmong k h (files ++ record { file = n; header = header } ∷ [])
  open_more header here k h below has = elim (cases_lt k n) [
    | inl before ↦ among_then files (record { file = n; header = header }) k h (so_far k h before has)
    | inr at ↦
        let same : k ≡ n = omega (arith, at, below) in
        let one : h ≡ header_seen header = same_header (file_of image n) h (header_seen header) (subst (λ (j : ℕ). OpensWith (file_of image j) h) same has) here in
        subst (λ (j : ℕ). IsAmong j h (files ++ record { file = n; header = header } ∷ [])) (sym same) (subst (λ (x : Header). IsAmong n x (files ++ record { file = n; header = header } ∷ [])) (sym one) (among_last files (record { file = n; header = header })))
  ]

  pub closed_more : IsHeaderOf None (file_of image n) → (k : ℕ) (h : Header) → k < n + 1 → OpensWith (file_of image k) h → IsAmong k h files
  closed_more none k h below has = elim (cases_lt k n) [
    | inl before ↦ so_far k h before has
    | inr at ↦ let same : k ≡ n = omega (arith, at, below) in absurd (none h (subst (λ (j : ℕ). OpensWith (file_of image j) h) same has))
  ]
