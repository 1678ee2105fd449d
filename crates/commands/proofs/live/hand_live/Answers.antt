use Rattle.std.proofs.Common.{arith}
use Rattle.stores.specs.FolderStore.{clock_of, failures_of, reads_of}
use Rattle.commands.specs.Live.{none}
use Rattle.commands.proofs.Bounds.{most_read}
use Rattle.commands.proofs.Readings.{found_hands, opened_tells}
use Rattle.commands.proofs.live.hand_live.Goals as goal

pub returns-else-count-gt1-clause-hands : goal.returns-else-count-gt1-clause-hands
returns-else-count-gt1-clause-hands g c = λ h.
    let e = c.read_trace.ensures in
    found_hands g.C.Consumer _ _ _ c.read_trace.result (e.whole h) (e.there h) (e.left h) (e.why_not h)

pub returns-else-count-gt1-clause-reads : goal.returns-else-count-gt1-clause-reads
returns-else-count-gt1-clause-reads g c =
    let device = c.read_trace.ensures.device in
    let old = c.args.files.now.store in
    let new = c.read_trace.new.store in
    let tells = opened_tells (failures_of old) (failures_of new) c.read_trace.result device.no_failure device.failures in
    record {
      only_reads = device.only_reads;
      at_most = λ h. most_read (reads_of old) (clock_of old) (clock_of new) (omega (arith, device.at_most h)) (λ one. omega (arith, device.at_most h));
      in_turn = record { count = 0; few = omega arith; mid = old; openings = none; last = tells };
      once = λ one. tells;
    }
