-- How much of an input is told as kept.
use Rattle.std.proofs.Common.{◌≡◌, ℕ, ◌+◌, Option, Some, None, List, Result, Ok, Err, IfSome, IfErr, MatchOption, refl, sym, subst, arith}
use Rattle.trace_store.specs.Disk.{Image}
use Rattle.stores.specs.FolderStore.{honest_of, reads_of}
use Rattle.stores.specs.declared.folder_store.FolderStore.{FolderStore}
use Rattle.recovery.specs.Stores.{Chain, IsStore, IsBlank, readings, view_of, is_blank, holds}
use Rattle.recovery.specs.Outlined.{Outlines, HasNothing, IsOutlineOf}
use Rattle.recovery.specs.declared.outlined.Outlined.{Outlined}
use Rattle.segment.specs.Seen.{spec_seen}
use Rattle.segment.specs.declared.specification.StoreSpec.{StoreSpec}
use Rattle.script_runner.specs.PortOpenings.{first_told}
use Rattle.script_runner.specs.declared.fault.SimFault.{SimFault}
use Rattle.script_runner.specs.declared.opening.AnyOpening.{AnyOpening}
use Rattle.script_runner.specs.declared.opening.AnyOpening.TheVariants as openings
use Rattle.script_runner.specs.declared.reply.Origin.{Origin}
use Rattle.command_line.specs.declared.request.Rules.{Rules}
use Rattle.faults.specs.Kept.{kept_told, complaint_with}
use Rattle.faults.specs.declared.kept.Kept.{Kept}
use Rattle.faults.specs.declared.complaint.Advice.TheVariants as advices
use Rattle.faults.specs.declared.complaint.Complaint.{Complaint}
use Rattle.faults.specs.declared.complaint.Complaint.TheVariants as complaints
use Rattle.import.specs.Incoming.{Outside}
use Rattle.import.specs.Marks.{HasTotal, whole, blank, KeepsFirst}
use Rattle.import.specs.declared.incoming.Incoming.{Incoming}
use Rattle.commands.specs.Importing.{WasFed}
use Rattle.commands.specs.Files.{OnlyLooks, IsCounted, CountsSo, IsCount, not_counted, IsKeptOf}
use Rattle.commands.specs.Commands.{device}

-- what is told is what was found, or nothing
pub told_with : (kept : Option Kept) (c : Complaint) (P : Kept → Type 0) → IfSome kept P → IfSome (kept_told (complaint_with kept c)) P
told_with kept (complaints.Fault fault (Some (advices.GoesOn was))) P h = h
told_with kept (complaints.Fault fault (Some (advices.DiskFailed was))) P h = h
told_with kept (complaints.Fault fault (Some (advices.Full was))) P h = h
told_with kept (complaints.Fault fault (Some _)) P h = tt
told_with kept (complaints.Fault fault None) P h = tt
told_with kept _ P h = tt

-- what was read has so many entries in all
pub total_read : (image : Image) (r : Outlined) (n : ℕ) → Outlines (readings image) r → n ≡ r.total → HasTotal image n
total_read image r n reads is = by_spec r.spec reads
  where
    by_spec : (spec : Option StoreSpec) → MatchOption spec (IsBlank (readings image) × HasNothing r) (λ s. (c : Chain) × IsStore (spec_seen s) c (readings image) × IsOutlineOf (spec_seen s) c r) → HasTotal image n
    by_spec None none = blank (is_blank none.0) (omega (arith, is, none.1.total))
    by_spec (Some spec) there = whole (spec_seen spec) (view_of (spec_seen spec) there.0) there.0.newest.sealed (holds (spec_seen spec) there.0 there.1) (omega (arith, is, there.2.numbers.total))

-- it is counted, or it isn't known
pub is_count : (image : Image) (r : Outlined) (skip before : ℕ) (incoming : Incoming) (Failed : Type 0) (kept : Option Kept) → Outlines (readings image) r → CountsSo skip before incoming r.total kept → IsCount skip before incoming image Failed kept
is_count image r skip before incoming Failed None reads none = not_counted r.total (total_read image r r.total reads refl) none
is_count image r skip before incoming Failed (Some kept) reads counted = record { bytes = counted.0; after = counted.1; mark = counted.2; total = total_read image r (before + kept.entries) reads counted.3 }

-- what is found after an import is what it kept
pub keeps_found : (opened : AnyOpening) (origin : Origin) (rules : Rules) (mid last new : FolderStore) (was is : Outside) (come : List ℕ) (incoming : Incoming) (done : Result Unit SimFault) (Writes : List ℕ → Type 0) (skip before : ℕ) (kept : Kept)
    → WasFed opened origin rules mid last was is come incoming done Writes → OnlyLooks last new → honest_of new → before ≡ (first_told opened (device mid)).total → IsCounted skip before incoming (reads_of last) kept → IsKeptOf (first_told opened (device mid)) rules.longest skip come (reads_of new) kept
keeps_found (openings.File opening) origin rules mid last new was is come incoming done Writes skip before kept fed looks h same found = record {
  bytes = found.bytes;
  after = found.after;
  keeps = λ v0 c f.
      subst (λ (image : Image). KeepsFirst rules.longest (first_told (openings.File opening) (device mid)).spec v0 come kept.entries found.bytes image) (sym (looks.same_reads h))
      (fed.put.first (looks.was_honest h) v0 c f kept.entries found.bytes found.mark (subst (λ (n : ℕ). HasTotal (reads_of last) (n + kept.entries)) same found.total));
}
keeps_found (openings.Wrap opening) origin rules mid last new was is come incoming done Writes skip before kept fed looks h same found = record {
  bytes = found.bytes;
  after = found.after;
  keeps = λ v0 c f.
      subst (λ (image : Image). KeepsFirst rules.longest (first_told (openings.Wrap opening) (device mid)).spec v0 come kept.entries found.bytes image) (sym (looks.same_reads h))
      (fed.put.first (looks.was_honest h) v0 c f kept.entries found.bytes found.mark (subst (λ (n : ℕ). HasTotal (reads_of last) (n + kept.entries)) same found.total));
}

-- and what is told is that
pub told_found : (opened : AnyOpening) (origin : Origin) (rules : Rules) (mid last new : FolderStore) (was is : Outside) (come : List ℕ) (incoming : Incoming) (done : Result Unit SimFault) (Writes : List ℕ → Type 0) (skip before : ℕ) (result : Result Unit Complaint)
    → WasFed opened origin rules mid last was is come incoming done Writes → OnlyLooks last new → before ≡ (first_told opened (device mid)).total
    → (honest_of new → IfErr result (λ complaint. IfSome (kept_told complaint) (IsCounted skip before incoming (reads_of last)))) → honest_of new → IfErr result (λ complaint. IfSome (kept_told complaint) (IsKeptOf (first_told opened (device mid)) rules.longest skip come (reads_of new)))
told_found opened origin rules mid last new was is come incoming done Writes skip before (Ok x) fed looks same found h = tt
told_found opened origin rules mid last new was is come incoming done Writes skip before (Err complaint) fed looks same found h = by_kept (kept_told complaint) (found h)
  where
    by_kept : (kept : Option Kept) → IfSome kept (IsCounted skip before incoming (reads_of last)) → IfSome kept (IsKeptOf (first_told opened (device mid)) rules.longest skip come (reads_of new))
    by_kept None none = tt
    by_kept (Some kept) counted = keeps_found opened origin rules mid last new was is come incoming done Writes skip before kept fed looks h same counted
