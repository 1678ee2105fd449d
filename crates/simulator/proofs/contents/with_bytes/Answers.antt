use Rattle.std.proofs.Common.{rules, ◌≡◌, List, [], ◌++◌, ℕ, set, ap, subst, ◌∙◌}
use Rattle.trace_store.specs.Disk.{Image}
use Rattle.stores.specs.MemStore.{IsSettled, reads_of}
use Rattle.simulator.proofs.contents.with_bytes.Goals as goal

pub returns-clause-made : goal.returns-clause-made
returns-clause-made c =
    let file = c.args.file in
    let none : c.new-own.result.items ≡ [] = search rules in
    let own = c.in_ok-extend_from_slice.ensures.items ∙ ap (λ (l : List ℕ). l ++ c.args.bytes.now) none in
    let same = c.replace.ensures ∙ ap (λ (image : Image). set image file c.extend_from_slice.new.self.items) (c.in_ok-contents.ensures.read tt) ∙ ap (λ (l : List ℕ). set (reads_of c.args.store.now) file l) own in
    let e = c.in_ok-from_bytes.ensures in
    record { settled = subst (λ (image : Image). IsSettled c.in_ok-from_bytes.field-0 image) same e.holds; fuse = e.fuse; clock = e.clock; failures = e.failures }
