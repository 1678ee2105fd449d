use Rattle.std.proofs.Common.{◌≡◌, ◌++◌, List, ℕ, drop, take, ◌∙◌, ap, subst}
use Rattle.std.specs.Io.KnownBytes.{Appends}
use Rattle.shown_listings.specs.declared.given.Given.{Given}
use Rattle.shown_listings.proofs.RowLemmas.{sends-more, rest-whole}
use Rattle.shown_listings.proofs.sending.send.Goals as goal

pub rest-preserved : goal.rest-preserved
rest-preserved g c =
    let bytes = c.rest.unsent.bytes.items in
    let taken = c.rest.unsent.taken in
    let count = c.in_ok-count.count in
    let contents = g.W.Write.contents in
    let all = c.deref.result.now in
    let Took : List ℕ → Type 0 = λ rest. Appends (contents c.rest.out) (contents c.write.new.self) (take count rest) in
    let Came : List ℕ → Type 0 = λ rest. c.note.new.self ≡ record c.rest.written { bytes = c.rest.written.bytes ++ take count rest } in
    let rest : drop taken all ≡ drop taken bytes = ap (λ l. drop taken l) c.deref.ensures.value in
    let took : Took (drop taken bytes) = subst Took rest (subst Took (rest-whole taken all) c.in_ok-count.ensures.bytes) in
    let came : Came (drop taken bytes) = subst Came rest (subst Came (rest-whole taken all) c.note.ensures) in
    record {
      same = c.rest.invariant.same;
      start = ap (λ (w : Given). w.start) came ∙ c.rest.invariant.start;
      sends = λ all was. sends-more (contents c.rest.out) (contents c.write.new.self) c.rest.written c.note.new.self taken count bytes all (c.rest.invariant.sends all was) took came;
    }
