use Rattle.std.proofs.Common.{◌≡◌, ◌+◌, ◌<◌, ◌≤◌, ◌++◌, ◌∷◌, length-append, Some, None, Option, List, [], length, ap, arith, subst, sym, ◌∙◌}
use Rattle.std.specs.List.{AllByRecursion}
use Rattle.trace_store.specs.Disk.{Image, file_of}
use Rattle.segment.specs.declared.header.SegHeader.{SegHeader}
use Rattle.segment.proofs.Taking.{reads_both}
use Rattle.foreign_files.specs.declared.open_files.OpenFile.{OpenFile}
use Rattle.foreign_files.specs.Headers.{IsHeaderOf}
use Rattle.foreign_files.specs.Disagreeing.{IsOpenFile, IsAmong, AreWithin}
use Rattle.foreign_files.proofs.Opened.{open_then, within_then, open_more, closed_more}
use Rattle.foreign_files.proofs.open_files.open_files.Goals.{in-Some+in_ok-push, in_default}
use Rattle.foreign_files.proofs.open_files.open_files.Goals as goal

pub loop-file-preserved : goal.loop-file-preserved
loop-file-preserved g c =
    let st = g.S.Store in
    let old = c.args.store.now in
    let mid = c.loop-file.store in
    let new = c.header_at.new.store in
    let was = c.loop-file.invariant in
    let look = c.in_ok-header.ensures in
    let n = c.loop-file.file in
    let image : Image = st.reads old in
    let files : List OpenFile = c.loop-file.files.items in
    let within : n < length image = omega (arith, c.loop-file-test.true, c.files-file-end.ensures) in
    let only = reads_both st.honest st.clock_of st.reads st.images st.moments old mid new was.only_reads look.device.only_reads in
    let told : (r : Option SegHeader) → c.in_ok-header.field-0 ≡ r → st.honest new → IsHeaderOf r (file_of image n) = λ r is h.
    subst (λ (i : Image). IsHeaderOf r (file_of i n)) (was.only_reads.same_reads (look.device.only_reads.was_honest h)) (subst (λ (x : Option SegHeader). IsHeaderOf x (file_of (st.reads mid) n)) is (look.tells h)) in
    elim c.match-branch-2.branch [
      | in-Some+in_ok-push w ↦
          let f : OpenFile = record { file = n; header = w.in-Some.header } in
          let items : c.match-branch-2.files.items ≡ files ++ f ∷ [] = ap (λ v. v.items) w.files-is ∙ w.in_ok-push.ensures.items in
          record {
            only_reads = only;
            most = omega (arith, was.most, look.device.at_most);
            failures = look.device.no_failure ∙ was.failures;
            few = subst (λ (l : List OpenFile). length l ≤ n + 1) (sym items) (omega (arith, length-append files (f ∷ []), was.few));
            within = subst (λ (l : List OpenFile). AreWithin (length image) l) (sym items) (within_then (length image) files f was.within within);
            are = λ h.
                let here = told (Some w.in-Some.header) w.in-Some.is h in
                subst (λ (l : List OpenFile). AllByRecursion (IsOpenFile image) l) (sym items) (open_then image files f (was.are (look.device.only_reads.was_honest h)) here);
            all = λ h k header below has.
                let here = told (Some w.in-Some.header) w.in-Some.is h in
                subst (λ (l : List OpenFile). IsAmong k header l) (sym items) (open_more image files n (was.all (look.device.only_reads.was_honest h)) w.in-Some.header here k header below has);
          }
      | in_default w ↦
          let items : c.match-branch-2.files.items ≡ files = ap (λ v. v.items) w.files-is in
          record {
            only_reads = only;
            most = omega (arith, was.most, look.device.at_most);
            failures = look.device.no_failure ∙ was.failures;
            few = subst (λ (l : List OpenFile). length l ≤ n + 1) (sym items) (omega (arith, was.few));
            within = subst (λ (l : List OpenFile). AreWithin (length image) l) (sym items) was.within;
            are = λ h. subst (λ (l : List OpenFile). AllByRecursion (IsOpenFile image) l) (sym items) (was.are (look.device.only_reads.was_honest h));
            all = λ h k header below has.
                subst (λ (l : List OpenFile). IsAmong k header l) (sym items) (closed_more image files n (was.all (look.device.only_reads.was_honest h)) (told None w.in_default.is h) k header below has);
          }
    ]
