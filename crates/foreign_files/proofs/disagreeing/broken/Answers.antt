use Rattle.std.proofs.Common.{◌≡◌, ◌<◌, true, false, ℕ, List, get_or, length, sym, ◌∙◌, subst, arith}
use Rattle.trace_store.specs.Disk.{Image, file_of}
use Rattle.segment.specs.Seen.{header_seen}
use Rattle.segment.proofs.Taking.{reads_both}
use Rattle.foreign_files.specs.declared.open_files.OpenFile.{OpenFile}
use Rattle.foreign_files.specs.Disagreeing.{GoesOn, IsOpenFile}
use Rattle.foreign_files.proofs.Opened.{no_open_file, all_at, all_to, all_of, apart}
use Rattle.foreign_files.proofs.Agreeing.{IsGoneOnFrom, none_above, next_goes_on, all_go_on}
use Rattle.foreign_files.proofs.disagreeing.broken.Goals as goal

pub returns-then-not-branch-clause-told : goal.returns-then-not-branch-clause-told
returns-then-not-branch-clause-told g c h are alike placed =
    let st = g.S.Store in
    let image : Image = st.reads c.args.store.now in
    let f : OpenFile = get_or c.args.files.now c.loop-file.file-index no_open_file in
    let next = c.in-Some.ensures in
    let told = c.in_ok-file_goes_on.ensures.told h in
    let same = c.loop-file.invariant.only_reads.same_reads (c.in_ok-file_goes_on.ensures.device.only_reads.was_honest h) in
    apart image c.args.files.now f c.in-Some.next are (all_at (IsOpenFile image) c.args.files.now c.loop-file.file-index are.are c.loop-file-test.true) (next.is image are) next.least
    (λ goes. let yes : c.in_ok-file_goes_on.field-0 ≡ true = told.1 (subst (λ (i : Image). GoesOn (file_of i f.file) (header_seen c.in-Some.next.header)) (sym same) goes) in let z : false ≡ true = sym c.if-not-branch.true ∙ yes in cc)

pub returns-then-not-branch-clause-within : goal.returns-then-not-branch-clause-within
returns-then-not-branch-clause-within g c =
    let n : ℕ = length (g.S.Store.reads c.args.store.now) in
    (all_at (λ x. x.file < n) c.args.files.now c.loop-file.file-index c.requires c.loop-file-test.true, c.in-Some.ensures.within n c.requires)

pub loop-file-preserved-in_default : goal.loop-file-preserved-in_default
loop-file-preserved-in_default g c =
    let was = c.loop-file.invariant in
    let files : List OpenFile = c.args.files.now in
    let f : OpenFile = get_or files c.loop-file.file-index no_open_file in
    let image : Image = g.S.Store.reads c.args.store.now in
    record {
      only_reads = was.only_reads;
      most = omega (arith, was.most);
      near = omega (arith, c.loop-file-test.true);
      on = λ h are alike placed.
          all_to (IsGoneOnFrom image) files c.loop-file.file-index c.loop-file-test.true (was.on h are alike placed) (none_above image files f are (rw c.in_default.is at c.next_above.ensures.least));
      failures = was.failures;
    }

pub loop-file-preserved : goal.loop-file-preserved
loop-file-preserved g c =
    let st = g.S.Store in
    let was = c.loop-file.invariant in
    let read = c.in_ok-file_goes_on.ensures in
    let files : List OpenFile = c.args.files.now in
    let f : OpenFile = get_or files c.loop-file.file-index no_open_file in
    let next = c.in-Some.ensures in
    let image : Image = st.reads c.args.store.now in
    record {
      only_reads = reads_both st.honest st.clock_of st.reads st.images st.moments c.args.store.now c.loop-file.store c.file_goes_on.new.store was.only_reads read.device.only_reads;
      most = omega (arith, was.most, read.device.at_most);
      near = omega (arith, c.loop-file-test.true);
      on = λ h are alike placed.
          let mid = read.device.only_reads.was_honest h in
          let goes : GoesOn (file_of image f.file) (header_seen c.in-Some.next.header) =
          subst (λ (i : Image). GoesOn (file_of i f.file) (header_seen c.in-Some.next.header)) (was.only_reads.same_reads mid) ((read.told h).0 c.if-not-branch.false) in
          all_to (IsGoneOnFrom image) files c.loop-file.file-index c.loop-file-test.true (was.on mid are alike placed)
          (next_goes_on image files f c.in-Some.next are alike placed (next.is image are) next.least goes);
      failures = read.device.no_failure ∙ was.failures;
    }

pub returns-clause-told : goal.returns-clause-told
returns-clause-told g c = λ h are alike placed.
    let image : Image = g.S.Store.reads c.args.store.now in
    all_go_on image c.args.files.now are (all_of (IsGoneOnFrom image) c.args.files.now c.loop-file.file-index c.loop-file-test.false (c.loop-file.invariant.on h are alike placed))
