-- Open files of which none disagree.
use Rattle.std.proofs.Common.{◌≡◌, ◌⊎◌, ⊎_elim, ℕ, ◌<◌, ◌≤◌, Option, Some, None, Result, Ok, Err, IfOk, List, length, sym, ◌∙◌, ap, subst, arith}
use Rattle.std.specs.Prelude.{MatchOption}
use Rattle.std.specs.List.{AllByRecursion}
use Rattle.trace_store.specs.Disk.{Image, file_of}
use Rattle.segment.specs.Segments.{Header}
use Rattle.segment.specs.Seen.{header_seen}
use Rattle.segment.specs.Specification.{count_of}
use Rattle.recovery.specs.Stores.{file_for}
use Rattle.foreign_files.specs.Headers.{OpensWith}
use Rattle.foreign_files.specs.declared.named.Disagreement.{Disagreement}
use Rattle.foreign_files.specs.declared.named.Disagreement.TheVariants.{One, Two, Missing}
use Rattle.foreign_files.specs.declared.open_files.OpenFile.{OpenFile}
use Rattle.foreign_files.specs.Disagreeing.{GoesOn, IsBroken, IsNewest, HasNone, oldest_kept, IsDisagreement, TellsDisagreement, NamesWithin, AreAlike, AreInPlace, HasAllKept, AllGoOn, IsOpenFile, AreOpenFiles, IsLeastAbove}
use Rattle.foreign_files.proofs.HeadersTold.{same_header}
use Rattle.foreign_files.proofs.Opened.{among}

-- then there is no disagreement
pub none_disagrees : (image : Image) → AreAlike image → AreInPlace image → HasAllKept (length image) image → AllGoOn image → (d : Disagreement) → NamesWithin (length image) d → IsDisagreement image d → ⊥
none_disagrees image alike placed kept on (One file) within is = is.place (placed file is.header is.has)
none_disagrees image alike placed kept on (Two one other) within is = ⊎_elim
    (λ differ. differ (alike one other is.first is.second is.has_first is.has_second))
    (λ broken. on one other is.first is.second is.has_first is.has_second broken)
    is.why
none_disagrees image alike placed kept on (Missing file is_oldest) within is = kept file is_oldest within is

-- so what the last look answers tells of all
pub told_of : {E : Type 0} (result : Result (Option Disagreement) E) (image : Image) → AreAlike image → AreInPlace image → HasAllKept (length image) image → IfOk result (λ r. MatchOption r (AllGoOn image) (IsDisagreement image)) → IfOk result (TellsDisagreement image)
told_of (Ok None) image alike placed kept on = none_disagrees image alike placed kept on
told_of (Ok (Some found)) image alike placed kept is = is
told_of (Err fault) image alike placed kept on = tt

-- each has the specification of one of them
pub all_alike : (image : Image) (files : List OpenFile) (first : OpenFile) → AreOpenFiles image files → AllByRecursion (λ f. (header_seen first.header).spec ≡ (header_seen f.header).spec) files → AreAlike image
all_alike image files first are alike one other g h has_one has_other =
    let P : ℕ → Header → Type 0 = λ k x. (header_seen first.header).spec ≡ x.spec in
    sym (among P files one g alike (are.all one g has_one)) ∙ among P files other h alike (are.all other h has_other)

-- each is in its place
pub all_placed : (image : Image) (files : List OpenFile) → AreOpenFiles image files → AllByRecursion (λ f. file_for (header_seen f.header).spec f.header.generation ≡ f.file) files → AreInPlace image
all_placed image files are placed file h has = among (λ k x. file_for x.spec x.generation ≡ k) files file h placed (are.all file h has)

-- ---- generations that go on

-- from this file
abbrev pub IsGoneOnFrom : Image → OpenFile → Type 0
IsGoneOnFrom image f = (other : ℕ) (h : Header) → OpensWith (file_of image other) h → IsBroken image (file_of image f.file) (header_seen f.header) h → ⊥

-- none has a later generation
pub none_above : (image : Image) (files : List OpenFile) (f : OpenFile) → AreOpenFiles image files → IsLeastAbove f.header.generation files None → IsGoneOnFrom image f
none_above image files f are none other h has broken =
    let low : h.generation ≤ f.header.generation = among (λ k x. x.generation ≤ f.header.generation) files other h none (are.all other h has) in
    absurd (omega (arith, low, broken.later))

-- the next one there is goes on from it, and is the only one of its generation
pub next_goes_on : (image : Image) (files : List OpenFile) (f next : OpenFile) → AreOpenFiles image files → AreAlike image → AreInPlace image → IsOpenFile image next → IsLeastAbove f.header.generation files (Some next) → GoesOn (file_of image f.file) (header_seen next.header) → IsGoneOnFrom image f
next_goes_on image files f next are alike placed is least goes other h has broken =
    let low : (h.generation ≤ f.header.generation) ⊎ (next.header.generation ≤ h.generation) =
    among (λ k x. (x.generation ≤ f.header.generation) ⊎ (next.header.generation ≤ x.generation)) files other h least.1 (are.all other h has) in
    let high : (next.header.generation ≤ f.header.generation) ⊎ (h.generation ≤ next.header.generation) = broken.near next.file (header_seen next.header) is in
    let above : next.header.generation ≤ h.generation = ⊎_elim (λ no. absurd (omega (arith, no, broken.later))) (λ yes. yes) low in
    let below : h.generation ≤ next.header.generation = ⊎_elim (λ no. absurd (omega (arith, no, least.0))) (λ yes. yes) high in
    let generation : h.generation ≡ next.header.generation = omega (arith, above, below) in
    let spec : h.spec ≡ (header_seen next.header).spec = alike other next.file h (header_seen next.header) has is in
    let file : other ≡ next.file =
    sym (placed other h has) ∙ ap (λ s. file_for s h.generation) spec ∙ ap (file_for (header_seen next.header).spec) generation ∙ placed next.file (header_seen next.header) is in
    let one : header_seen next.header ≡ h = same_header (file_of image other) (header_seen next.header) h (subst (λ (k : ℕ). OpensWith (file_of image k) (header_seen next.header)) (sym file) is) has in
    broken.broken (subst (GoesOn (file_of image f.file)) one goes)

-- the same of all
pub all_go_on : (image : Image) (files : List OpenFile) → AreOpenFiles image files → AllByRecursion (IsGoneOnFrom image) files → AllGoOn image
all_go_on image files are gone one other g h has_one has_other broken =
    among (λ k x. (o : ℕ) (y : Header) → OpensWith (file_of image o) y → IsBroken image (file_of image k) x y → ⊥) files one g gone (are.all one g has_one) other h has_other broken

-- ---- generations that are kept

-- of those that a wrap keeps beside its newest each is there
pub keeps_all : (image : Image) (newest : OpenFile) (kept oldest count : ℕ) → IsOpenFile image newest → IsNewest image newest.header.generation → AreAlike image → count_of (header_seen newest.header).spec ≡ Some kept → oldest ≤ oldest_kept newest.header.generation kept
    → ((k : ℕ) → oldest ≤ k → k < newest.header.generation → file_for (header_seen newest.header).spec k < count → HasNone image k → ⊥) → HasAllKept count image
keeps_all image newest kept oldest count is later alike counted low there file is_oldest within missing =
    let spec : missing.newest.spec ≡ (header_seen newest.header).spec = alike missing.at newest.file missing.newest (header_seen newest.header) missing.has is in
    let above : newest.header.generation ≤ missing.newest.generation = missing.none_later newest.file (header_seen newest.header) is in
    let below : missing.newest.generation ≤ newest.header.generation = later missing.at missing.newest missing.has in
    let counts : Some missing.count ≡ Some kept = sym missing.keeps ∙ ap count_of spec ∙ counted in
    let count : missing.count ≡ kept = cc in
    let place : file_for (header_seen newest.header).spec missing.generation ≡ file = sym (ap (λ s. file_for s missing.generation) spec) ∙ missing.place in
    there missing.generation (omega (arith, low, missing.kept, above, below, count)) (omega (arith, missing.older, below)) (omega (arith, place, within)) missing.gone
