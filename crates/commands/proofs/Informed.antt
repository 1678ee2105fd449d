-- A trace told in numbers.
use Rattle.std.proofs.Common.{◌≡◌, ◌⊎◌, ◌∙◌, ◌≤◌, ◌+◌, ◌*◌, ℕ, Option, Some, None, inl, inr, sym, subst, arith}
use Rattle.std.specs.Prelude.{Result, Ok, Err, IsErr, MatchResult, MatchOption}
use Rattle.segment.specs.Seen.{spec_seen}
use Rattle.segment.specs.declared.specification.StoreSpec.{StoreSpec}
use Rattle.recovery.specs.Outlined.{Outlines, HasNothing, IsOutlineOf}
use Rattle.recovery.specs.Stores.{Chain, StoreReading, DamagedAt, Mixed, Sequence, Blank, Holds, Reads, is_blank, holds, readings, view_of, IsBlank, IsStore}
use Rattle.recovery.specs.declared.fault.RecoverFault.TheVariants as causes
use Rattle.recovery.proofs.Once.{one_reading}
use Rattle.trace_store.specs.Disk.{Image}
use Rattle.stores.specs.FolderStore.{honest_of, reads_of, clock_of}
use Rattle.stores.specs.declared.folder_store.FolderStore.{FolderStore}
use Rattle.recovery.specs.Recovery.{Refuses}
use Rattle.recovery.specs.declared.fault.RecoverFault.{RecoverFault}
use Rattle.recovery.specs.declared.outlined.Outlined.{Outlined}
use Rattle.foreign_files.specs.Standing.{IsStanding}
use Rattle.foreign_files.specs.declared.standing.Standing.TheVariants as standings
use Rattle.trace_summary.specs.Summaries.{IsOfContents, IsJudged}
use Rattle.trace_reader.specs.declared.fault.ReadFault.TheVariants as faults
use Rattle.faults.specs.Faults.{read_fault}
use Rattle.faults.specs.declared.complaint.Complaint.{Complaint}
use Rattle.commands.specs.Files.{OnlyLooks, LooksOver}
use Rattle.script_runner.specs.declared.fault.SimFault.{SimFault}
use Rattle.commands.proofs.Bounds.{readings_at_most}
use Rattle.commands.specs.Informing.{most_to_sum, most_judged, IsInfo, whole, refused}
use Rattle.commands.proofs.Readings.{looks_both, same_behind}

-- what a reading found, after others that only looked, of which there were so many
pub found_after : (Found : Image → Type 0) (old mid new : FolderStore) (made : ℕ) → made ≤ 4 → (mid ≡ old) ⊎ OnlyLooks old mid → (honest_of mid → clock_of mid ≤ clock_of old + made * most_to_sum (reads_of old)) → LooksOver mid new (most_to_sum (reads_of mid)) (Found (reads_of mid))
    → LooksOver old new (5 * most_to_sum (reads_of old)) (Found (reads_of old))
found_after Found old mid new made few before calls over = record {
  only_reads = looks_both old mid new before over.only_reads;
  at_most = λ h.
      let h1 = over.only_reads.was_honest h in
      readings_at_most (clock_of old) (clock_of mid) (clock_of new) made (most_to_sum (reads_of old)) few (calls h1)
      (subst (λ (i : Image). clock_of new ≤ clock_of mid + most_to_sum i) (same_behind old mid before h1) (over.at_most h));
  told = λ h. subst Found (same_behind old mid before (over.only_reads.was_honest h)) (over.told h);
}

-- files that aren't one whole trace
abbrev pub NotWhole : Image → Type 0
NotWhole image = (r : Outlined) → Outlines (readings image) r → ⊥

-- files read so are refused by none of what they hold
abbrev IsWhole : StoreReading → Type 0
IsWhole Blank = Unit {0}
IsWhole (Holds spec view sealed) = Unit {0}
IsWhole reading = ⊥

not_refused : (image : Image) (reading : StoreReading) (cause : RecoverFault) → Refuses image cause → IsOfContents cause → Reads image reading → IsWhole reading → ⊥
not_refused image reading (causes.Damaged file place) refuses of reads good = subst IsWhole (one_reading image reading (DamagedAt file place) reads refuses) good
not_refused image reading causes.Mixed refuses of reads good = subst IsWhole (one_reading image reading Mixed reads refuses) good
not_refused image reading causes.Sequence refuses of reads good = subst IsWhole (one_reading image reading Sequence reads refuses) good
not_refused image reading causes.Device refuses of reads good = of
not_refused image reading causes.NoMemory refuses of reads good = of

outlined_refused : (image : Image) (spec : Option StoreSpec) (r : Outlined) (cause : RecoverFault) → MatchOption spec (IsBlank (readings image) × HasNothing r) (λ s. (c : Chain) × IsStore (spec_seen s) c (readings image) × IsOutlineOf (spec_seen s) c r) → Refuses image cause → IsOfContents cause → ⊥
outlined_refused image None r cause outlines refuses of = not_refused image Blank cause refuses of (is_blank outlines.0) tt
outlined_refused image (Some s) r cause outlines refuses of = not_refused image (Holds (spec_seen s) (view_of (spec_seen s) outlines.0) outlines.0.newest.sealed) cause refuses of (holds (spec_seen s) outlines.0 outlines.1) tt

-- where they are judged so
pub not_whole : (image : Image) (outlined : Result Outlined RecoverFault) → IsErr outlined → IsJudged image outlined → NotWhole image
not_whole image (Ok r) err judged = absurd (cc)
not_whole image (Err cause) err judged = λ r outlines. outlined_refused image r.spec r cause outlines judged.0 judged.1

-- what a reading gathered, after others if files aren't whole
pub gathered_after : (outlined : Result Outlined RecoverFault) (old mid new : FolderStore) (made : ℕ) → made ≤ 4 → (mid ≡ old) ⊎ OnlyLooks old mid → (honest_of mid → clock_of mid ≤ clock_of old + made * most_to_sum (reads_of old)) → (honest_of mid → (made ≡ 0) ⊎ NotWhole (reads_of old))
    → LooksOver mid new (most_to_sum (reads_of mid)) (IsStanding standings.Ours (reads_of mid) × IsJudged (reads_of mid) outlined) → LooksOver old new (most_judged outlined (reads_of old)) (IsStanding standings.Ours (reads_of old) × IsJudged (reads_of old) outlined)
gathered_after (Err cause) old mid new made few before calls once over = found_after (λ image. IsStanding standings.Ours image × IsJudged image (Err cause)) old mid new made few before calls over
gathered_after (Ok r) old mid new made few before calls once over =
    let all = found_after (λ image. IsStanding standings.Ours image × IsJudged image (Ok r)) old mid new made few before calls over in
    record {
      only_reads = all.only_reads;
      at_most = λ h.
          let h1 = over.only_reads.was_honest h in
          elim (once h1) [
            | inl none ↦
                let had = subst (λ (n : ℕ). clock_of mid ≤ clock_of old + n * most_to_sum (reads_of old)) none (calls h1) in
                let more = subst (λ (i : Image). clock_of new ≤ clock_of mid + most_to_sum i) (same_behind old mid before h1) (over.at_most h) in
                omega (arith, had, more)
            | inr not ↦ absurd (not r (all.told h).1)
          ];
      told = all.told;
    }

-- that is never more than 5 readings
pub judged_within : (outlined : Result Outlined RecoverFault) (image : Image) (before now : ℕ) → now ≤ before + most_judged outlined image → now ≤ before + 5 * most_to_sum image
judged_within (Ok r) image before now most = omega (arith, most)
judged_within (Err cause) image before now most = most

-- and one where no fault was found
pub whole_once : (outlined : Result Outlined RecoverFault) (found : Option RecoverFault) (image : Image) (before now : ℕ) → found ≡ None → MatchResult outlined (λ _. found ≡ None) (λ fault. found ≡ Some fault) → now ≤ before + most_judged outlined image → now ≤ before + most_to_sum image
whole_once (Ok r) found image before now none is most = most
whole_once (Err cause) found image before now none is most = let e : None ≡ Some cause = sym none ∙ is in absurd (cc)

-- no fault was found
pub whole_so : (Told : SimFault → Complaint → Type 0) (image : Image) (outlined : Result Outlined RecoverFault) (found : Option RecoverFault) → found ≡ None → MatchResult outlined (λ _. found ≡ None) (λ fault. found ≡ Some fault) → IsStanding standings.Ours image → IsJudged image outlined → IsInfo Told image (Ok tt)
whole_so Told image (Ok r) found none is there judged = whole r there judged
whole_so Told image (Err cause) found none is there judged = let e : None ≡ Some cause = sym none ∙ is in absurd (cc)

-- one was, and is told
pub refused_so : (Told : SimFault → Complaint → Type 0) (image : Image) (outlined : Result Outlined RecoverFault) (found : Option RecoverFault) (cause : RecoverFault) (complaint : Complaint) → found ≡ Some cause → MatchResult outlined (λ _. found ≡ None) (λ fault. found ≡ Some fault) → IsStanding standings.Ours image
    → IsJudged image outlined → Told (read_fault (faults.Refused cause)) complaint → IsInfo Told image (Err complaint)
refused_so Told image (Ok r) found cause complaint some is there judged told = let e : Some cause ≡ None = sym some ∙ is in absurd (cc)
refused_so Told image (Err own) found cause complaint some is there judged told =
    let e : Some own ≡ Some cause = sym is ∙ some in
    let same : own ≡ cause = cc in
    refused (faults.Refused cause) complaint (subst (λ (c : RecoverFault). Refuses image c) same judged.0, λ _. there) told
