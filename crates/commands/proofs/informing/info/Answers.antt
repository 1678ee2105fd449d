use Rattle.std.proofs.Common.{◌∙◌, ⊎_elim, inl, inr, ap, refl, None, ◌*◌, arith}
use Rattle.commands.specs.Informing.{most_to_sum}
use Rattle.commands.proofs.Bounds.{tell_after}
use Rattle.segment.proofs.Taking.{reads_both}
use Rattle.stores.specs.FolderStore.{honest_of, reads_of, images_of, moments_of, clock_of}
use Rattle.script_runner.specs.declared.fault.SimFault.{SimFault}
use Rattle.faults.specs.declared.complaint.Complaint.TheVariants as complaints
use Rattle.trace_reader.specs.declared.fault.ReadFault.TheVariants as reads
use Rattle.faults.specs.Faults.{read_fault}
use Rattle.commands.specs.Informing.{refused, not_told}
use Rattle.commands.proofs.Naming.{told_moved}
use Rattle.commands.proofs.Informed.{judged_within, whole_once, whole_so, refused_so}
use Rattle.commands.proofs.informing.info.Goals as goal

pub returns-in-Err-clause-ended : goal.returns-in-Err-clause-ended
returns-in-Err-clause-ended g c =
    let e = c.in-Err.ensures.found in
    let looks = c.told.ensures.only_reads in
    record {
      only_reads = reads_both honest_of clock_of reads_of images_of moments_of c.args.files.now.store c.look_over.new.files.store c.told.new.files.store e.only_reads looks;
      at_most = λ h.
          tell_after c.args.files.now.store c.look_over.new.files.store (clock_of c.told.new.files.store) (5 * most_to_sum (reads_of c.args.files.now.store)) e.only_reads (e.at_most (looks.was_honest h)) c.told.ensures.at_most;
      told = λ h. refused c.in-Err.fault c.told.result (e.told (looks.was_honest h))
          (told_moved c.args.files.now.place c.look_over.new.files.place c.told.new.files.store (read_fault c.in-Err.fault) (read_fault c.in-Err.fault) c.told.result c.look_over.ensures.place refl c.told.ensures.told);
    }

pub returns-in-Err-write_info-clause-ended : goal.returns-in-Err-write_info-clause-ended
returns-in-Err-write_info-clause-ended g c = record {
  only_reads = c.in-Ok.ensures.found.only_reads;
  at_most = λ h.
      let image = reads_of c.args.files.now.store in
      let most = judged_within c.in-Ok.info.outlined image (clock_of c.args.files.now.store) (clock_of c.look_over.new.files.store) (c.in-Ok.ensures.found.at_most h) in
      omega (arith, most);
  told = λ h.
      not_told c.from.result
      (⊎_elim (λ write. inl (c.from.ensures ∙ ap (λ (fault : SimFault). complaints.Fault fault None) write))
      (λ memory. inr (c.from.ensures ∙ ap (λ (fault : SimFault). complaints.Fault fault None) memory)) c.in-Err-write_info.ensures);
}

pub returns-in-None-clause-ended : goal.returns-in-None-clause-ended
returns-in-None-clause-ended g c =
    let e = c.in-Ok.ensures.found in
    record {
      only_reads = e.only_reads;
      at_most = λ h. whole_once c.in-Ok.info.outlined c.fault.result (reads_of c.args.files.now.store) (clock_of c.args.files.now.store) (clock_of c.look_over.new.files.store) c.in-None.is c.fault.ensures (e.at_most h);
      told = λ h. let found = e.told h in whole_so _ (reads_of c.args.files.now.store) c.in-Ok.info.outlined c.fault.result c.in-None.is c.fault.ensures found.0 found.1;
    }

pub returns-clause-ended : goal.returns-clause-ended
returns-clause-ended g c =
    let e = c.in-Ok.ensures.found in
    let told = c.told-in-Some in
    let looks = told.ensures.only_reads in
    record {
      only_reads = reads_both honest_of clock_of reads_of images_of moments_of c.args.files.now.store c.look_over.new.files.store told.new.files.store e.only_reads looks;
      at_most = λ h.
          tell_after c.args.files.now.store c.look_over.new.files.store (clock_of told.new.files.store) (5 * most_to_sum (reads_of c.args.files.now.store)) e.only_reads
          (judged_within c.in-Ok.info.outlined (reads_of c.args.files.now.store) (clock_of c.args.files.now.store) (clock_of c.look_over.new.files.store) (e.at_most (looks.was_honest h))) told.ensures.at_most;
      told = λ h.
          let found = e.told (looks.was_honest h) in
          refused_so _ (reads_of c.args.files.now.store) c.in-Ok.info.outlined c.fault.result c.in-Some.cause told.result c.in-Some.is c.fault.ensures found.0 found.1
          (told_moved c.args.files.now.place c.look_over.new.files.place told.new.files.store (read_fault (reads.Refused c.in-Some.cause)) (read_fault (reads.Refused c.in-Some.cause)) told.result c.look_over.ensures.place refl told.ensures.told);
    }
