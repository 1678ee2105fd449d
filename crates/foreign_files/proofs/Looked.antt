-- What is known of the files that were looked at.
use Rattle.std.proofs.Common.{◌≡◌, ◌≢◌, inl, inr, ℕ, zero, suc, ◌+◌, ◌<◌, ◌≤◌, List, [], ◌∷◌, length, take, refl, sym, ◌∙◌, ap, subst, arith, None}
use Rattle.std.specs.Prelude.{sum_by}
use Rattle.std.proofs.lemmas.Bool.{cases_lt}
use Rattle.std.proofs.lemmas.List.{take_more, take_all}
use Rattle.std.proofs.lemmas.List.Sums.{sum_by-append}
use Rattle.trace_store.specs.Disk.{Image, file_of}
use Rattle.foreign_files.specs.Foreign.{IsForeign}
use Rattle.foreign_files.specs.Headers.{IsHeaderOf}
use Rattle.foreign_files.specs.Standing.{IsFirstForeign, HasBytes, IsStanding, NamesWithin, looks_for}
use Rattle.foreign_files.specs.declared.standing.Standing.{Standing}
use Rattle.foreign_files.specs.declared.standing.Standing.TheVariants.{Absent, Ours, Foreign}

pub no_file : (image : Image) (k : ℕ) → length image ≤ k → file_of image k ≡ []
no_file [] k past = refl
no_file (text ∷ image) zero past = absurd (omega (arith, past))
no_file (text ∷ image) (suc k) past = no_file image k (omega (arith, past))

pub empty_ours : (text : List ℕ) → text ≡ [] → IsForeign text → ⊥
empty_ours text none foreign = absurd (omega (arith, foreign.some, ap (λ (l : List ℕ). length l) none))

-- the answer so far, of so many files
abbrev pub HasLooked : Standing → Image → ℕ → Type 0
HasLooked Absent image n = (k : ℕ) → k < n → file_of image k ≡ []
HasLooked Ours image n = HasBytes image × ((k : ℕ) → k < n → IsForeign (file_of image k) → ⊥)
HasLooked (Foreign file is_stream) image n = ⊥

none_foreign : (s : Standing) (image : Image) (n : ℕ) → HasLooked s image n → (k : ℕ) → k < n → IsForeign (file_of image k) → ⊥
none_foreign Absent image n looked k below = empty_ours (file_of image k) (looked k below)
none_foreign Ours image n looked k below = looked.1 k below
none_foreign (Foreign file is_stream) image n looked k below = absurd looked

pub one_more : (P : ℕ → Type 0) (n : ℕ) → ((k : ℕ) → k < n → P k) → P n → (k : ℕ) → k < n + 1 → P k
one_more P n earlier here k below = elim (cases_lt k n) [
  | inl before ↦ earlier k before
  | inr at ↦ subst P (let e : n ≡ k = omega (arith, at, below) in e) here
]

pub looked_empty : (s : Standing) (image : Image) (n : ℕ) → HasLooked s image n → file_of image n ≡ [] → HasLooked s image (n + 1)
looked_empty Absent image n looked none = one_more (λ k. file_of image k ≡ []) n looked none
looked_empty Ours image n looked none = (looked.0, one_more (λ k. IsForeign (file_of image k) → ⊥) n looked.1 (empty_ours (file_of image n) none))
looked_empty (Foreign file is_stream) image n looked none = absurd looked

pub looked_ours : (s : Standing) (image : Image) (n : ℕ) → HasLooked s image n → file_of image n ≢ [] → (IsForeign (file_of image n) → ⊥) → HasLooked Ours image (n + 1)
looked_ours s image n looked some ours = (record { file = n; some = some }, one_more (λ k. IsForeign (file_of image k) → ⊥) n (none_foreign s image n looked) ours)

-- an answer that names no file
pub names_none : (s : Standing) (n : ℕ) → NamesWithin 0 s → NamesWithin n s
names_none Absent n none = tt
names_none Ours n none = tt
names_none (Foreign file is_stream) n none = absurd (omega (arith, none))

-- ---- how many device calls

pub looks_with : (image : Image) (n : ℕ) → n < length image → sum_by looks_for (take (n + 1) image) ≡ sum_by looks_for (take n image) + looks_for (file_of image n)
looks_with image n within = ap (λ (l : List (List ℕ)). sum_by looks_for l) (take_more image n [] within) ∙ sum_by-append looks_for (take n image) (file_of image n ∷ []) ∙ omega arith

-- ---- headers
