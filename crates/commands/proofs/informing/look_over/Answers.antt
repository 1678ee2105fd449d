use Rattle.std.proofs.Common.{◌≤◌, ◌+◌, ◌*◌, ℕ, Err, inl, inr, refl, sym, subst, ap, ◌∙◌, arith, rules}
use Rattle.std.proofs.lemmas.Result.{err_from_is_err_and}
use Rattle.std.specs.Prelude.{Result, IsErr}
use Rattle.trace_summary.specs.declared.info.Info.{Info}
use Rattle.trace_reader.specs.Reading.{IsWhyNotRead}
use Rattle.trace_reader.specs.declared.fault.ReadFault.{ReadFault}
use Rattle.commands.specs.Files.{LooksOver}
use Rattle.commands.specs.Informing.{most_to_gather, IsGathered}
use Rattle.commands.proofs.Informed.{NotWhole, not_whole, found_after, gathered_after}
use Rattle.trace_store.specs.Disk.{Image}
use Rattle.stores.specs.Events.{IsHonest}
use Rattle.stores.specs.FolderStore.{honest_of, reads_of, clock_of}
use Rattle.commands.specs.Informing.{most_to_sum}
use Rattle.commands.proofs.Readings.{looks_both, looks_same, same_behind, one_more}
use Rattle.commands.proofs.informing.look_over.Goals as goal

pub readings-init : goal.readings-init
readings-init c = record { few = omega arith; place = refl; calls = λ h. omega arith; once = λ h. inl refl; only_reads = inl refl }

pub readings-preserved : goal.readings-preserved
readings-preserved c = record {
  few = omega (arith, c.readings.invariant.few, c.if-made-eq-AGAIN.false);
  place = c.reopen.ensures.place ∙ (c.look_once.ensures.place ∙ c.readings.invariant.place);
  calls = λ h.
      let old = c.args.files.now.store in
      let mid = c.readings.files.store in
      let seen = c.look_once.new.files.store in
      let h2 : honest_of seen = subst IsHonest c.reopen.ensures.same.past h in
      let h1 = c.look_once.ensures.found.only_reads.was_honest h2 in
      let same = same_behind old mid c.readings.invariant.only_reads h1 in
      subst (λ (n : ℕ). n ≤ clock_of old + (c.readings.made + 1) * most_to_sum (reads_of old)) (sym c.reopen.ensures.same.clock)
      (one_more (clock_of old) (clock_of mid) (clock_of seen) c.readings.made (c.readings.made + 1) (most_to_sum (reads_of old)) (omega arith) (c.readings.invariant.calls h1)
      (subst (λ (image : Image). clock_of seen ≤ clock_of mid + most_to_sum image) same (c.look_once.ensures.found.at_most h2)));
  once = λ h.
      let seen = c.look_once.new.files.store in
      let h2 : honest_of seen = subst IsHonest c.reopen.ensures.same.past h in
      let h1 = c.look_once.ensures.found.only_reads.was_honest h2 in
      let same = same_behind c.args.files.now.store c.readings.files.store c.readings.invariant.only_reads h1 in
      let err : IsErr c.in_ok-info.info.outlined = search rules in
      inr (subst NotWhole same (not_whole (reads_of c.readings.files.store) c.in_ok-info.info.outlined err (c.in_ok-info.ensures.found.told h2).1));
  only_reads = inr (looks_same c.args.files.now.store c.look_once.new.files.store c.reopen.new.self.store (looks_both c.args.files.now.store c.readings.files.store c.look_once.new.files.store c.readings.invariant.only_reads c.look_once.ensures.found.only_reads) c.reopen.ensures.same c.reopen.ensures.closed);
}

pub returns-in_err-info-clause-found : goal.returns-in_err-info-clause-found
returns-in_err-info-clause-found c =
    let p = err_from_is_err_and c.from_residual.result c.from_residual.ensures.1 in
    let old = c.args.files.now.store in
    let inv = c.readings.invariant in
    let all = found_after (λ image. IsWhyNotRead c.in_err-info.field-0.0 image) old c.readings.files.store c.look_once.new.files.store c.readings.made inv.few inv.only_reads inv.calls c.in_err-info.ensures.found in
    subst (λ (r : Result Info ReadFault). LooksOver old c.look_once.new.files.store (most_to_gather r (reads_of old)) (IsGathered (reads_of old) r)) (sym (p.1 ∙ ap Err p.2)) all

pub returns-then-made-eq-AGAIN-clause-found : goal.returns-then-made-eq-AGAIN-clause-found
returns-then-made-eq-AGAIN-clause-found c =
    let inv = c.readings.invariant in
    gathered_after c.in_ok-info.info.outlined c.args.files.now.store c.readings.files.store c.look_once.new.files.store c.readings.made inv.few inv.only_reads inv.calls inv.once c.in_ok-info.ensures.found
