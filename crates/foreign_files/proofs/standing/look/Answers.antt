use Rattle.std.proofs.Common.{◌≡◌, ◌+◌, ◌<◌, ℕ, List, length, ap, ◌∙◌, arith, sym, subst}
use Rattle.trace_store.specs.Disk.{Image, file_of}
use Rattle.foreign_files.specs.Standing.{IsSort, NamesWithin, looks_for}
use Rattle.foreign_files.specs.declared.sort.Sort.{Sort}
use Rattle.foreign_files.specs.declared.sort.Sort.TheVariants as sorts
use Rattle.foreign_files.specs.declared.standing.Standing.{Standing}
use Rattle.foreign_files.proofs.Looked.{HasLooked, names_none, looked_empty, looked_ours, looks_with}
use Rattle.segment.proofs.Taking.{reads_both}
use Rattle.foreign_files.proofs.standing.look.Goals.{in-Empty, in-Ours}
use Rattle.foreign_files.proofs.standing.look.Goals as goal

pub loop-file-preserved : goal.loop-file-preserved
loop-file-preserved g c =
    let st = g.S.Store in
    let old = c.args.store.now in
    let mid = c.loop-file.store in
    let new = c.sort_at.new.store in
    let was = c.loop-file.invariant in
    let look = c.in_ok-sort_at.ensures in
    let n = c.loop-file.file in
    let image : Image = st.reads old in
    let within : n < length image = omega (arith, c.loop-file-test.true, c.files-file-end.ensures) in
    let same : st.honest new → file_of (st.reads mid) n ≡ file_of image n = λ h. ap (λ (i : Image). file_of i n) (was.only_reads.same_reads (look.device.only_reads.was_honest h)) in
    record {
      only_reads = reads_both st.honest st.clock_of st.reads st.images st.moments old mid new was.only_reads look.device.only_reads;
      looked = λ h.
          let m = look.device.only_reads.was_honest h in
          let so_far = was.looked m in
          let told : (sort : Sort) → c.in_ok-sort_at.field-0 ≡ sort → IsSort sort (file_of image n) = λ sort is.
          subst (λ (text : List ℕ). IsSort sort text) (same h) (subst (λ (s : Sort). IsSort s (file_of (st.reads mid) n)) is (look.tells h)) in
          elim c.match-branch-2.branch [
            | in-Empty w ↦ subst (λ (s : Standing). HasLooked s image (n + 1)) (sym w.standing-is) (looked_empty c.loop-file.standing image n so_far (told sorts.Empty w.in-Empty.is))
            | in-Ours w ↦ let ours = told sorts.Ours w.in-Ours.is in subst (λ (s : Standing). HasLooked s image (n + 1)) (sym w.standing-is) (looked_ours c.loop-file.standing image n so_far ours.0 ours.1)
          ];
      calls = λ h. omega (arith, look.calls h, was.calls (look.device.only_reads.was_honest h), looks_with image n within, ap looks_for (same h));
      most = omega (arith, was.most, look.device.at_most);
      plain = elim c.match-branch-2.branch [
        | in-Empty w ↦ subst (λ (s : Standing). NamesWithin 0 s) (sym w.standing-is) was.plain
        | in-Ours w ↦ subst (λ (s : Standing). NamesWithin 0 s) (sym w.standing-is) tt
      ];
      failures = look.device.no_failure ∙ was.failures;
    }

pub returns-clause-within : goal.returns-clause-within
returns-clause-within g c = names_none c.loop-file.standing (length (g.S.Store.reads c.args.store.now)) c.loop-file.invariant.plain
