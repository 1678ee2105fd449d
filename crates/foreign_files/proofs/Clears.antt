-- Files that are cleared one by one.
use Rattle.std.proofs.Common.{◌≡◌, ⊎_elim, inl, inr, ℕ, List, [], ◌∷◌, length, refl, sym, ◌∙◌, ap, subst, arith}
use Rattle.std.specs.Prelude.{slice_set}
use Rattle.trace_store.specs.Disk.{Image, file_of, InFile, NoMore}
use Rattle.trace_store.specs.Moments.{LeavesOnly, StepsFrom}
use Rattle.segment.specs.Segments.{Closed, IsOpen, reading_of}
use Rattle.segment.specs.FileChanges.{Within, IsClosed}
use Rattle.segment.proofs.Moves.{leaves_weaker, leaves_both, same_image}
use Rattle.recovery.specs.Wiping.{IsCleared, IsWiping}
use Rattle.recovery.proofs.Wipes.{closing_wider, closing_on, leaves_closing}
use Rattle.foreign_files.specs.Foreign.{IsForeign}
use Rattle.foreign_files.specs.Clearing.{IsPrepared, IsKeptOrPrepared, IsToClear, IsClearedOf, IsClearing}

-- ---- one file

pub prepares : (old mid : Image → Type 0) (file : ℕ) → NoMore old mid → ((d : Image) → mid d → IsForeign (file_of d file)) → (c : Image) → StepsFrom mid file (Within 1 IsClosed) c → StepsFrom old file IsKeptOrPrepared c
prepares old mid file fewer foreign c from = (from.0, fewer from.0 from.1, record { others = from.2.others; changed = inr (foreign from.0 from.1, from.2.changed.changed) })

module _ {D : Type 0} (clock_of : D → ℕ) (moments : D → ℕ → Image → Type 0) (images : D → Image → Type 0) (old mid new : D) (file : ℕ) where
  -- every moment of a file's look
  pub leaves_looked : LeavesOnly clock_of moments old mid (images old) → LeavesOnly clock_of moments old mid (StepsFrom (images old) file IsKeptOrPrepared)
  leaves_looked first = leaves_weaker clock_of moments old mid (images old) (StepsFrom (images old) file IsKeptOrPrepared) first (λ c is. same_image IsKeptOrPrepared (images old) file c is (inl refl))

  -- and of its preparation
  pub leaves_prepared : LeavesOnly clock_of moments old mid (images old) → NoMore (images old) (images mid) → ((d : Image) → images mid d → IsForeign (file_of d file))
      → LeavesOnly clock_of moments mid new (StepsFrom (images mid) file (Within 1 IsClosed)) → LeavesOnly clock_of moments old new (StepsFrom (images old) file IsKeptOrPrepared)
  leaves_prepared first fewer foreign second =
      let P = StepsFrom (images old) file IsKeptOrPrepared in
      leaves_both clock_of moments old mid new P (leaves_looked first)
      (leaves_weaker clock_of moments mid new (StepsFrom (images mid) file (Within 1 IsClosed)) P second (prepares (images old) (images mid) file fewer foreign))

-- ---- an image while it is cleared

-- what was wiped, and what was then closed
foreign_too : (text : List ℕ) → IsForeign text → IsToClear text
foreign_too text foreign = inr foreign

open_too : (text : List ℕ) → IsOpen text → IsToClear text
open_too text opened = inl opened

pub clearing_wiped : (old : Image → Type 0) (c : Image) → IsWiping old c → IsClearing old c
clearing_wiped = closing_wider IsToClear IsOpen open_too

pub clearing_on : (old mid : Image → Type 0) (file : ℕ) → ((d : Image) → mid d → IsClearing old d) → (c : Image) → StepsFrom mid file IsKeptOrPrepared c → IsClearing old c
clearing_on = closing_on IsToClear IsForeign foreign_too

-- every moment of one file more
pub leaves_clearing : {D : Type 0} (clock_of : D → ℕ) (moments : D → ℕ → Image → Type 0) (images : D → Image → Type 0) (old mid new : D) (file : ℕ) → ((d : Image) → images mid d → IsClearing (images old) d)
    → LeavesOnly clock_of moments old mid (IsClearing (images old)) → LeavesOnly clock_of moments mid new (StepsFrom (images mid) file IsKeptOrPrepared) → LeavesOnly clock_of moments old new (IsClearing (images old))
leaves_clearing = leaves_closing IsToClear IsForeign foreign_too

-- each image is what is read, still
pub settled_on : (images images' : Image → Type 0) (reads reads' : Image) (file : ℕ) → ((d : Image) → images d → d ≡ reads) → InFile file IsPrepared reads reads' → ((c : Image) → images' c → StepsFrom images file IsKeptOrPrepared c)
    → ((c : Image) → images' c → file_of c file ≡ file_of reads' file) → (c : Image) → images' c → c ≡ reads'
settled_on images images' reads reads' file settled change from alike c is =
    let start = from c is in
    start.2.others ∙ ap (λ (d : Image). slice_set d file (file_of c file)) (settled start.0 start.1) ∙ ap (λ (text : List ℕ). slice_set reads file text) (alike c is) ∙ sym change.others

-- ---- a store that is cleared

pub one_gate_ours : (text : List ℕ) → text ≡ 0 ∷ [] → IsForeign text → ⊥
one_gate_ours text is foreign = absurd (omega (arith, foreign.some, ap (λ (l : List ℕ). length l) is))

pub prepared_ours : (old new : List ℕ) → IsPrepared old new → IsForeign new → ⊥
prepared_ours old new (inl done) foreign = one_gate_ours new done.1 foreign
prepared_ours old new (inr kept) foreign = kept.0 (subst IsForeign kept.1 foreign)

pub prepared_closed : (old new : List ℕ) → IsPrepared old new → reading_of old ≡ Closed → reading_of new ≡ Closed
prepared_closed old new (inl done) shut = ap reading_of done.1
prepared_closed old new (inr kept) shut = ap reading_of kept.1 ∙ shut

pub cleared_both : (old mid new : List ℕ) → IsCleared old mid → IsPrepared mid new → IsClearedOf old new
cleared_both old mid new (inl opened) (inl done) = absurd (one_gate_ours mid opened.1 done.0)
cleared_both old mid new (inl opened) (inr kept) = inl (inl opened.0, kept.1 ∙ opened.1)
cleared_both old mid new (inr shut) (inl done) = inl (inr (subst IsForeign shut.1 done.0), done.1)
cleared_both old mid new (inr shut) (inr kept) =
    inr (λ clear. ⊎_elim shut.0 (λ foreign. kept.0 (subst IsForeign (sym shut.1) foreign)) clear, kept.1 ∙ shut.1)

-- every moment of a wipe
pub leaves_wiped : {D : Type 0} (clock_of : D → ℕ) (moments : D → ℕ → Image → Type 0) (images : D → Image → Type 0) (old new : D) → LeavesOnly clock_of moments old new (IsWiping (images old)) → LeavesOnly clock_of moments old new (IsClearing (images old))
leaves_wiped clock_of moments images old new run = leaves_weaker clock_of moments old new (IsWiping (images old)) (IsClearing (images old)) run (clearing_wiped (images old))
