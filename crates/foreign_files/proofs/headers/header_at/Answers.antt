use Rattle.std.proofs.Common.{◌≡◌, ℕ, List, take, ap, rules, ◌∙◌}
use Rattle.trace_store.specs.Disk.{Image, IsBytes, file_of}
use Rattle.segment.proofs.Taking.{reads_both}
use Rattle.foreign_files.proofs.Looking.{reads_once}
use Rattle.foreign_files.proofs.HeadersTold.{header_told}
use Rattle.foreign_files.proofs.headers.header_at.Goals as goal

pub returns-clause-tells : goal.returns-clause-tells
returns-clause-tells g c h =
    let st = g.S.Store in
    let laws = g.met.S.Store in
    let old = c.args.store.now in
    let h1 = c.read_at.ensures.call.was_honest h in
    let h0 = c.len.ensures.call.was_honest h1 in
    let text : List ℕ = file_of (st.reads old) c.args.file in
    let bytes : IsBytes text = laws.images_are_bytes old (st.reads old) h0 (laws.reads_may_stay old h0) c.args.file in
    let read : c.read_at.new.bytes ≡ take 36 text = c.in_ok-read_at.ensures.bytes h ∙ ap (λ (i : Image). take 36 (file_of i c.args.file)) (c.len.ensures.reads h1) in
    header_told text c.read_at.new.bytes c.read_header.result c.in_ok-size.size bytes (c.in_ok-size.ensures.length h1) c.if-size-lt-LEAST_LENGTH.false read c.if-head-ne1.false c.read_header.ensures

pub returns-clause-device : goal.returns-clause-device
returns-clause-device g c =
    let st = g.S.Store in
    let laws = g.met.S.Store in
    let old = c.args.store.now in
    let mid = c.len.new.self in
    let new = c.read_at.new.self in
    record {
      only_reads = reads_both st.honest st.clock_of st.reads st.images st.moments old mid new
          (reads_once st.honest st.clock_of st.failures_of st.reads st.images st.moments laws.counts_now laws.only_now old mid c.len.result c.len.ensures.call c.len.ensures.reads c.len.ensures.images)
          (reads_once st.honest st.clock_of st.failures_of st.reads st.images st.moments laws.counts_now laws.only_now mid new c.read_at.result c.read_at.ensures.call c.read_at.ensures.reads c.read_at.ensures.images);
      no_failure = search rules;
      failures = search rules;
      at_most = search rules;
    }
