-- Openings of a trace one after the other.
use Rattle.std.proofs.Common.{◌≡◌, ◌⊎◌, ⊎_elim, ◌≤◌, ◌+◌, ◌*◌, ◌∙◌, ℕ, suc, ap, length, inl, inr, refl, sym, subst, arith}
use Rattle.std.specs.Prelude.{Result, Ok, Err, OnOk, IfErr, MatchResult}
use Rattle.std.proofs.Math.Nat.{suc-mul, mul-le-mul_right}
use Rattle.trace_store.specs.Disk.{Image}
use Rattle.stores.specs.Events.{IsHonest, as_made}
use Rattle.stores.specs.FolderStore.{made_of, honest_of, reads_of, images_of, moments_of, clock_of, failures_of, IsSame, IsClosedAnew}
use Rattle.stores.specs.declared.folder_store.FolderStore.{FolderStore}
use Rattle.segment.proofs.Taking.{reads_both}
use Rattle.trace_items.specs.declared.consumer.Consumer.{Ghosts}
use Rattle.foreign_files.specs.Standing.{IsStanding}
use Rattle.foreign_files.specs.declared.standing.Standing.TheVariants as standings
use Rattle.trace_reader.specs.Handing.{TookStore}
use Rattle.trace_reader.specs.Listings.{IsWhyNotTold, TellsFailures}
use Rattle.trace_reader.specs.Reading.{IsLookFault, IsWhyNotRead}
use Rattle.trace_reader.specs.Traces.{IsOpenedCutShort, IsTraceCutShort}
use Rattle.trace_reader.specs.declared.opened.Opened.{Opened}
use Rattle.trace_reader.proofs.Traces.{why_not_read}
use Rattle.trace_reader.specs.declared.fault.ReadFault.{ReadFault}
use Rattle.trace_reader.specs.declared.fault.ReadFault.TheVariants as faults
use Rattle.recovery.specs.declared.fault.RecoverFault.TheVariants as causes
use Rattle.trace_reader.specs.Openings.{IsOfOpening, IsOpened}
use Rattle.trace_listings.proofs.BridgeTrace.{is_ours}
use Rattle.commands.specs.Files.{OnlyLooks}
use Rattle.commands.specs.Live.{HandsTrace, OpensInTurn}

-- after readings that only looked, if there were any, one more
pub looks_both : (old mid new : FolderStore) → (mid ≡ old) ⊎ OnlyLooks old mid → OnlyLooks mid new → OnlyLooks old new
looks_both old mid new before read = elim before [
  | inl same ↦ subst (λ (s : FolderStore). OnlyLooks s new) same read
  | inr looks ↦ reads_both honest_of clock_of reads_of images_of moments_of old mid new looks read
]

-- after one that looked anew for files
pub looks_same : (old mid new : FolderStore) → OnlyLooks old mid → IsSame mid new → IsClosedAnew mid new → OnlyLooks old new
looks_same old mid new looks same closed =
    let behind : honest_of new → honest_of mid = λ h. subst IsHonest same.past h in
    record {
      same_made = let made : made_of new ≡ made_of mid = λ i. (as_made (same.past i), closed.locked i) in made ∙ looks.same_made;
      was_honest = λ h. looks.was_honest (behind h);
      count = ap (λ (i : Image). length i) same.idle.same_reads ∙ looks.count;
      same_reads = λ h. same.idle.same_reads ∙ looks.same_reads (behind h);
      same_images = λ h.
          let m = looks.same_images (behind h) in
          record { no_more = λ c is. m.no_more c (same.idle.same_images.no_more c is); no_fewer = λ c is. same.idle.same_images.no_fewer c (m.no_fewer c is) };
      each_moment = λ h.
          let m = looks.each_moment (behind h) in
          record {
            passes = record {
              later = omega (arith, m.passes.later, same.clock);
              splits = λ t c le left. ⊎_elim (λ was. inl was) (λ arose. inr (λ u early. (same.idle.same_moments u).no_fewer c (arose u early))) (m.passes.splits t c le ((same.idle.same_moments t).no_more c left));
              keeps = λ t c le left. (same.idle.same_moments t).no_fewer c (m.passes.keeps t c le left);
            };
            each = λ c left. m.each c ((same.idle.same_moments (clock_of old)).no_more c left);
          };
    }

pub same_behind : (old mid : FolderStore) → (mid ≡ old) ⊎ OnlyLooks old mid → honest_of mid → reads_of mid ≡ reads_of old
same_behind old mid before h = elim before [
  | inl same ↦ ap reads_of same
  | inr looks ↦ looks.same_reads h
]

-- ---- device calls of readings

-- so many, and one more
pub one_more : (before mid now j k m : ℕ) → k ≡ suc j → mid ≤ before + j * m → now ≤ mid + m → now ≤ before + k * m
one_more before mid now j k m is had made = subst (λ (n : ℕ). now ≤ before + n * m) (sym is) (omega (arith, had, made, suc-mul j m))

-- no more than 32
pub openings_at_most : (before mid now j m : ℕ) → j ≤ 31 → mid ≤ before + j * m → now ≤ mid + m → now ≤ before + 32 * m
openings_at_most before mid now j m few had made = omega (arith, had, made, suc-mul j m, mul-le-mul_right m (let less : suc j ≤ 32 = omega (arith, few) in less))

-- ---- failed device calls

-- of one opening
pub opened_tells : {T : Type 0} (mid now : ℕ) (result : Result T ReadFault) → OnOk result (now ≡ mid) → IfErr result (TellsFailures mid now) → MatchResult result (λ _. now ≡ mid) (TellsFailures mid now)
opened_tells mid now (Ok done) none told = none
opened_tells mid now (Err fault) none told = told

-- of the openings, and then of what was opened
pub failures_both : {T U : Type 0} (old mid new : FolderStore) (first : Result T ReadFault) (value : T) (result : Result U ReadFault) → first ≡ Ok value → OpensInTurn old mid first → OnOk result (failures_of new ≡ failures_of mid) → IfErr result (TellsFailures (failures_of mid) (failures_of new)) → OpensInTurn old new result
failures_both old mid new first value result is had kept told =
    let last : failures_of mid ≡ failures_of had.mid = rw is at had.last in
    record {
      count = had.count;
      few = had.few;
      mid = had.mid;
      openings = had.openings;
      last = subst (λ (n : ℕ). MatchResult result (λ _. failures_of new ≡ n) (TellsFailures n (failures_of new))) last (opened_tells (failures_of mid) (failures_of new) result kept told);
    }

-- ---- what was handed on

-- of a trace that was found
pub found_hands : {C : Type 0} (g : Ghosts C) (image : Image) (old new : C) (result : Result Unit ReadFault) → OnOk result (TookStore g image old new) → OnOk result (IsStanding standings.Ours image) → IfErr result (λ fault. IsTraceCutShort g fault image old new) → IfErr result (λ fault. IsWhyNotRead fault image)
    → HandsTrace g image old new result
found_hands g image old new (Ok done) took there left why = (there, took)
found_hands g image old new (Err fault) took there left why = (why, inl left)

-- of several files that were opened
pub opened_hands : {C : Type 0} (g : Ghosts C) (what : Opened) (now image : Image) (old new : C) (result : Result Unit ReadFault) → now ≡ image → 2 ≤ length now → IsOpened now what → OnOk result (TookStore g now old new) → IfErr result (λ fault. IsOpenedCutShort g what fault now old new)
    → IfErr result (λ fault. IsWhyNotTold fault now) → HandsTrace g image old new result
opened_hands g what now image old new result same several is took left why = subst (λ (i : Image). HandsTrace g i old new result) same (so result took left why)
  where
    so : (r : Result Unit ReadFault) → OnOk r (TookStore g now old new) → IfErr r (λ fault. IsOpenedCutShort g what fault now old new) → IfErr r (λ fault. IsWhyNotTold fault now) → HandsTrace g now old new r
    so (Ok done) took left why = (is_ours what now is, took)
    so (Err fault) took left why = (why_not_read (Err fault) now now refl (is_ours what now is) why, inr (what, several, is, left))

-- of files that couldn't be opened
pub of_opening : (fault : ReadFault) → IsOfOpening fault → IsLookFault fault
of_opening (faults.Refused causes.NoMemory) is = tt
of_opening (faults.Refused causes.Device) is = is
of_opening (faults.Refused (causes.Damaged file place)) is = is
of_opening (faults.Refused causes.Mixed) is = is
of_opening (faults.Refused causes.Sequence) is = is
of_opening faults.Write is = is
of_opening faults.NoMemory is = is
of_opening (faults.Foreign file is_stream) is = is
of_opening faults.Absent is = is
