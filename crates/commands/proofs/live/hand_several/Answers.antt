use Rattle.std.proofs.Common.{◌≤◌, ◌+◌, inl, inr, length, subst, sym, arith}
use Rattle.trace_store.specs.Disk.{Image}
use Rattle.stores.specs.FolderStore.{reads_of, clock_of}
use Rattle.trace_reader.specs.Openings.{IsOpened}
use Rattle.commands.specs.Live.{most_opened}
use Rattle.commands.proofs.Readings.{looks_both, failures_both, of_opening, opened_hands}
use Rattle.commands.proofs.live.hand_several.Goals as goal

pub returns-in-Ok-clause-hands : goal.returns-in-Ok-clause-hands
returns-in-Ok-clause-hands g c = λ h.
    let e = c.read_opened.ensures in
    let h1 = e.device.only_reads.was_honest h in
    let same = c.in-Ok.ensures.only_reads.same_reads h1 in
    let now = reads_of c.open_live.new.files.store in
    let several : 2 ≤ length now = omega (arith, c.requires.several, c.in-Ok.ensures.only_reads.count) in
    let is = subst (λ (image : Image). IsOpened image c.in-Ok.opened) (sym same) (c.in-Ok.ensures.opened h1) in
    opened_hands g.C.Consumer c.in-Ok.opened now (reads_of c.args.files.now.store) _ _ c.read_opened.result same several is (e.whole h) (e.left h) (e.why_not h)

pub returns-in-Ok-clause-in_turn : goal.returns-in-Ok-clause-in_turn
returns-in-Ok-clause-in_turn g c =
    let e = c.read_opened.ensures in
    failures_both _ _ _ c.open_live.result c.in-Ok.opened c.read_opened.result c.in-Ok.is c.open_live.ensures.in_turn e.device.no_failure e.device.failures

pub returns-in-Ok-clause-at_most : goal.returns-in-Ok-clause-at_most
returns-in-Ok-clause-at_most g c = λ h.
    let e = c.read_opened.ensures in
    let h1 = e.device.only_reads.was_honest h in
    let same = c.in-Ok.ensures.only_reads.same_reads h1 in
    let made : clock_of c.read_opened.new.store ≤ clock_of c.open_live.new.files.store + most_opened (reads_of c.open_live.new.files.store) = omega (arith, e.device.at_most h) in
    omega (arith, c.in-Ok.ensures.at_most h1, subst (λ (image : Image). clock_of c.read_opened.new.store ≤ clock_of c.open_live.new.files.store + most_opened image) same made)

pub returns-in-Ok-clause-only_reads : goal.returns-in-Ok-clause-only_reads
returns-in-Ok-clause-only_reads g c = looks_both c.args.files.now.store c.open_live.new.files.store c.read_opened.new.store (inr c.in-Ok.ensures.only_reads) c.read_opened.ensures.device.only_reads

pub returns-in-Err-clause-hands : goal.returns-in-Err-clause-hands
returns-in-Err-clause-hands g c = λ h. (c.in-Err.ensures.why_not h, inl (inr (of_opening c.in-Err.fault c.in-Err.ensures.fault, g.met.C.Consumer.stays c.args.consumer.now)))
