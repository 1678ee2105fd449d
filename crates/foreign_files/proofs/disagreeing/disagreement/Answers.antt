use Rattle.std.proofs.Common.{◌≡◌, ◌∙◌, List, length, IfOk, subst, sym, ap, arith}
use Rattle.std.specs.Prelude.{IfErr, MatchOption}
use Rattle.trace_store.specs.Disk.{Image}
use Rattle.segment.specs.DeviceCalls.{TellsSegment}
use Rattle.segment.proofs.Taking.{reads_both, ok_leads}
use Rattle.foreign_files.specs.declared.open_files.OpenFile.{OpenFile}
use Rattle.foreign_files.specs.Disagreeing.{AreAlike, AreInPlace, HasAllKept, AllGoOn, IsDisagreement, AreOpenFiles, AreWithin}
use Rattle.foreign_files.proofs.Agreeing.{told_of}
use Rattle.foreign_files.proofs.disagreeing.disagreement.Goals as goal

pub returns-in-Some-clause-told : goal.returns-in-Some-clause-told
returns-in-Some-clause-told g c h =
    let image = g.S.Store.reads c.args.store.now in
    c.in-Some.ensures.told image (subst (λ (l : List OpenFile). AreOpenFiles image l) (sym c.deref.ensures.value) (c.in_ok-files.ensures.all h))

pub returns-in-Some-clause-within : goal.returns-in-Some-clause-within
returns-in-Some-clause-within g c =
    let n = length (g.S.Store.reads c.args.store.now) in
    c.in-Some.ensures.within n (subst (λ (l : List OpenFile). AreWithin n l) (sym c.deref.ensures.value) c.in_ok-files.ensures.within)

pub returns-in-Some-misplaced-clause-told : goal.returns-in-Some-misplaced-clause-told
returns-in-Some-misplaced-clause-told g c h =
    let image = g.S.Store.reads c.args.store.now in
    c.in-Some-misplaced.ensures.told image (subst (λ (l : List OpenFile). AreOpenFiles image l) (sym c.deref-2.ensures.value) (c.in_ok-files.ensures.all h))

pub returns-in-Some-misplaced-clause-within : goal.returns-in-Some-misplaced-clause-within
returns-in-Some-misplaced-clause-within g c =
    let n = length (g.S.Store.reads c.args.store.now) in
    c.in-Some-misplaced.ensures.within n (subst (λ (l : List OpenFile). AreWithin n l) (sym c.deref-2.ensures.value) c.in_ok-files.ensures.within)

pub returns-in-Some-missing-clause-told : goal.returns-in-Some-missing-clause-told
returns-in-Some-missing-clause-told g c h =
    let image = g.S.Store.reads c.args.store.now in
    c.in-Some-missing.ensures.told image (subst (λ (l : List OpenFile). AreOpenFiles image l) (sym c.deref-3.ensures.value) (c.in_ok-files.ensures.all h))
    (c.in_default.ensures.told image (subst (λ (l : List OpenFile). AreOpenFiles image l) (sym c.deref.ensures.value) (c.in_ok-files.ensures.all h)))

pub returns-clause-told : goal.returns-clause-told
returns-clause-told g c h =
    let st = g.S.Store in
    let image : Image = st.reads c.args.store.now in
    let opened = c.in_ok-files.ensures in
    let mid = c.broken.ensures.device.only_reads.was_honest h in
    let same : st.reads c.open_files.new.store ≡ image = opened.device.only_reads.same_reads mid in
    let are : (l : List OpenFile) → l ≡ c.in_ok-files.files.items → AreOpenFiles image l = λ l is. subst (λ (k : List OpenFile). AreOpenFiles image k) (sym is) (opened.all mid) in
    let alike : AreAlike image = c.in_default.ensures.told image (are c.deref.result.now c.deref.ensures.value) in
    let placed : AreInPlace image = c.in_default-misplaced.ensures.told image (are c.deref-2.result.now c.deref-2.ensures.value) in
    let kept : HasAllKept c.files.result image = c.in_default-missing.ensures.told image (are c.deref-3.result.now c.deref-3.ensures.value) alike in
    told_of c.broken.result image alike placed (subst (λ n. HasAllKept n image) (c.files.ensures ∙ ap (λ (i : Image). length i) same) kept)
    (subst (λ (i : Image). AreOpenFiles i c.deref-4.result.now → AreAlike i → AreInPlace i → IfOk c.broken.result (λ r. MatchOption r (AllGoOn i) (IsDisagreement i))) same (c.broken.ensures.told h) (are c.deref-4.result.now c.deref-4.ensures.value) alike placed)

pub returns-clause-device : goal.returns-clause-device
returns-clause-device g c =
    let st = g.S.Store in
    let opened = c.in_ok-files.ensures.device in
    let rest = c.broken.ensures.device in
    record {
      only_reads = reads_both st.honest st.clock_of st.reads st.images st.moments c.args.store.now c.open_files.new.store c.broken.new.store opened.only_reads rest.only_reads;
      no_failure = ok_leads c.broken.result _ _ (λ same. same ∙ opened.no_failure) rest.no_failure;
      failures = subst (λ n. IfErr c.broken.result (TellsSegment n (st.failures_of c.broken.new.store))) opened.no_failure rest.failures;
      at_most = omega (arith, rest.at_most, opened.at_most, ap (λ (l : List OpenFile). length l) c.deref-4.ensures.value, c.in_ok-files.ensures.few);
    }
