use Rattle.segment.proofs.Taking.{reads_both}
use Rattle.std.proofs.Common.{◌≡◌, Err, Ok, rules, subst}
use Rattle.std.specs.Prelude.{Result}
use Rattle.stores.specs.FolderStore.{honest_of, reads_of, images_of, moments_of, clock_of}
use Rattle.trace_reader.specs.declared.fault.ReadFault.{ReadFault}
use Rattle.trace_listings.specs.WritesOut.{form_of}
use Rattle.commands.specs.Live.{WritesLive, most_to_read}
use Rattle.commands.proofs.Bounds.{most_so, tell_after}
use Rattle.commands.specs.Commands.{refused}
use Rattle.faults.specs.Faults.{read_fault}
use Rattle.commands.proofs.Naming.{told_moved}
use Rattle.commands.proofs.Commanding.{is_read}
use Rattle.commands.proofs.commands.read_trace.Goals as goal

pub returns-in-Ok-clause-read : goal.returns-in-Ok-clause-read
returns-in-Ok-clause-read g c =
    let e = c.read_live-reading.ensures in
    let contents = g.W.Write.contents in
    let old = c.args.files.now.store in
    let new = c.read_live-reading.new.files.store in
    let done : c.read_live-reading.result.done ≡ Ok tt = search rules in
    record {
      only_reads = e.reads.only_reads;
      at_most = λ h. most_so c.written_out.result (reads_of old) (clock_of old) (clock_of new) (most_to_read (reads_of old)) (e.reads.at_most h);
      told = λ h.
          let wrote = subst (λ (r : Result Unit ReadFault). WritesLive (form_of c.args.output_form) (reads_of old) (contents c.args.watched.now.writer.now) (contents c.read_live-reading.new.watched.writer.now) c.read_live-reading.new.watched.entries r) done (e.writes h) in
          is_read _ _ _ _ _ c.written_out.result _ wrote.1 wrote.0 c.flush-flushed.ensures.bytes c.written_out.ensures.err;
    }

pub returns-in-Err-clause-read : goal.returns-in-Err-clause-read
returns-in-Err-clause-read g c =
    let e = c.read_live-reading.ensures in
    let contents = g.W.Write.contents in
    let old = c.args.files.now.store in
    let mid = c.read_live-reading.new.files.store in
    let done : c.read_live-reading.result.done ≡ Err c.in-Err.fault = search rules in
    record {
      only_reads = reads_both honest_of clock_of reads_of images_of moments_of old mid c.explained.new.self.store e.reads.only_reads c.explained.ensures.only_reads;
      at_most = λ h. tell_after old mid (clock_of c.explained.new.self.store) (most_to_read (reads_of old)) e.reads.only_reads (e.reads.at_most (c.explained.ensures.only_reads.was_honest h)) c.explained.ensures.at_most;
      told = λ h.
          let before = c.explained.ensures.only_reads.was_honest h in
          let wrote = subst (λ (r : Result Unit ReadFault). WritesLive (form_of c.args.output_form) (reads_of old) (contents c.args.watched.now.writer.now) (contents c.read_live-reading.new.watched.writer.now) c.read_live-reading.new.watched.entries r) done (e.writes before) in
          refused c.in-Err.fault c.read_live-reading.new.watched.entries _ c.explained.result wrote.0 wrote.1 c.flush-flushed.ensures.bytes
          (told_moved c.args.files.now.place c.read_live-reading.new.files.place c.explained.new.self.store c.fault_of_reading.result (read_fault c.in-Err.fault) c.explained.result e.place c.fault_of_reading.ensures c.explained.ensures.named);
    }
