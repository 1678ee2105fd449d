use Rattle.std.proofs.Common.{◌≤◌, ◌+◌, ◌*◌, ◌<◌, ℕ, inl, inr, refl, sym, subst, ◌∙◌, rules, arith}
use Rattle.std.specs.Prelude.{IfOk, IfErr}
use Rattle.trace_store.specs.Disk.{Image}
use Rattle.stores.specs.Events.{IsHonest}
use Rattle.stores.specs.FolderStore.{honest_of, reads_of, clock_of, failures_of}
use Rattle.trace_reader.specs.Reading.{IsWhyNotRead}
use Rattle.trace_reader.specs.Openings.{IsOpened}
use Rattle.commands.specs.Live.{most_to_open, MayBeTorn, none, more}
use Rattle.commands.proofs.Readings.{looks_both, looks_same, same_behind, one_more, openings_at_most, opened_tells}
use Rattle.commands.proofs.live.open_live.Goals as goal

pub openings-init : goal.openings-init
openings-init c = record { few = omega arith; place = refl; only_reads = inl refl; openings = none; calls = λ h. omega arith }

pub returns-then-not-is_to_repeat-clause-opened : goal.returns-then-not-is_to_repeat-clause-opened
returns-then-not-is_to_repeat-clause-opened c = λ h.
    let read = c.open_trace-opened.ensures in
    let same = same_behind c.args.files.now.store c.openings.files.store c.openings.invariant.only_reads (read.device.only_reads.was_honest h) in
    subst (λ (image : Image). IfOk c.open_trace-opened.result (IsOpened image)) same (read.opened h)

pub returns-then-not-is_to_repeat-clause-why_not : goal.returns-then-not-is_to_repeat-clause-why_not
returns-then-not-is_to_repeat-clause-why_not c = λ h.
    let read = c.open_trace-opened.ensures in
    let same = same_behind c.args.files.now.store c.openings.files.store c.openings.invariant.only_reads (read.device.only_reads.was_honest h) in
    subst (λ (image : Image). IfErr c.open_trace-opened.result (λ fault. IsWhyNotRead fault image)) same (read.why_not h)

pub returns-then-not-is_to_repeat-clause-at_most : goal.returns-then-not-is_to_repeat-clause-at_most
returns-then-not-is_to_repeat-clause-at_most c = λ h.
    let inv = c.openings.invariant in
    let read = c.open_trace-opened.ensures in
    let s0 = c.args.files.now.store in
    let s1 = c.openings.files.store in
    let s2 = c.open_trace-opened.new.store in
    let h1 = read.device.only_reads.was_honest h in
    let same = same_behind s0 s1 inv.only_reads h1 in
    let made : clock_of s2 ≤ clock_of s1 + most_to_open (reads_of s1) = omega (arith, read.device.at_most h) in
    openings_at_most (clock_of s0) (clock_of s1) (clock_of s2) c.openings.made (most_to_open (reads_of s0)) inv.few (inv.calls h1) (subst (λ (image : Image). clock_of s2 ≤ clock_of s1 + most_to_open image) same made)

pub returns-then-not-is_to_repeat-clause-only_reads : goal.returns-then-not-is_to_repeat-clause-only_reads
returns-then-not-is_to_repeat-clause-only_reads c = looks_both c.args.files.now.store c.openings.files.store c.open_trace-opened.new.store c.openings.invariant.only_reads c.open_trace-opened.ensures.device.only_reads

pub returns-then-not-is_to_repeat-clause-in_turn : goal.returns-then-not-is_to_repeat-clause-in_turn
returns-then-not-is_to_repeat-clause-in_turn c = record {
  count = c.openings.made;
  few = c.openings.invariant.few;
  mid = c.openings.files.store;
  openings = c.openings.invariant.openings;
  last = opened_tells (failures_of c.openings.files.store) (failures_of c.open_trace-opened.new.store) c.open_trace-opened.result c.open_trace-opened.ensures.device.no_failure c.open_trace-opened.ensures.device.failures;
}

pub openings-preserved : goal.openings-preserved
openings-preserved c =
    let inv = c.openings.invariant in
    let read = c.open_trace-opened.ensures in
    let s0 = c.args.files.now.store in
    let s1 = c.openings.files.store in
    let s2 = c.open_trace-opened.new.store in
    let s3 = c.reopen.new.self.store in
    let anew = c.reopen.ensures.same in
    let torn : MayBeTorn c.open_trace-opened.result = search rules in
    let few : c.openings.made < 31 = search rules in
    record {
      few = omega arith;
      place = c.reopen.ensures.place ∙ inv.place;
      only_reads = inr (looks_same s0 s2 s3 (looks_both s0 s1 s2 inv.only_reads read.device.only_reads) anew c.reopen.ensures.closed);
      openings = more c.openings.made s1 s2 s3 c.open_trace-opened.result inv.openings torn
          (opened_tells (failures_of s1) (failures_of s2) c.open_trace-opened.result read.device.no_failure read.device.failures) anew c.reopen.ensures.closed;
      calls = λ h.
          let h2 : honest_of s2 = subst IsHonest anew.past h in
          let h1 = read.device.only_reads.was_honest h2 in
          let same = same_behind s0 s1 inv.only_reads h1 in
          let made : clock_of s2 ≤ clock_of s1 + most_to_open (reads_of s1) = omega (arith, read.device.at_most h2) in
          subst (λ (n : ℕ). n ≤ clock_of s0 + (c.openings.made + 1) * most_to_open (reads_of s0)) (sym anew.clock)
          (one_more (clock_of s0) (clock_of s1) (clock_of s2) c.openings.made (c.openings.made + 1) (most_to_open (reads_of s0)) (omega arith) (inv.calls h1) (subst (λ (image : Image). clock_of s2 ≤ clock_of s1 + most_to_open image) same made));
    }
