use Rattle.std.proofs.Common.{◌≡◌, ◌+◌, ◌++◌, List, ℕ, take, drop, sym, ◌∙◌, ap, subst, arith, rules}
use Rattle.std.specs.Io.KnownBytes.{Appends}
use Rattle.std.proofs.KnownBytes.{Keeps-trans, append_known-moved}
use Rattle.std.proofs.lemmas.List.{take-append-drop, drop-drop}
use Rattle.shown_listings.proofs.RowLemmas.{rest-whole}
use Rattle.shown_listings.proofs.ahead.give.Goals as goal

pub rest-preserved : goal.rest-preserved
rest-preserved g c =
    let bytes = c.args.bytes.now in
    let taken = c.rest.taken in
    let count = c.in_ok-count.count in
    let contents = g.W.Write.contents in
    let rest = drop taken bytes in
    let behind = drop (taken + count) bytes in
    let Took : List ℕ → Type 0 = λ part. Appends (contents c.rest.out) (contents c.write.new.self) (take count part) in
    let took : Took rest = subst Took (rest-whole taken bytes) c.in_ok-count.ensures.bytes in
    let split : rest ≡ take count rest ++ behind = sym (take-append-drop count rest) ∙ ap (λ l. take count rest ++ l) (drop-drop count taken bytes) in
    record {
      within = search (rules, arith);
      kept = Keeps-trans _ _ _ c.rest.invariant.kept (append_known-moved (contents c.rest.out) (contents c.write.new.self) (take count rest) behind rest took split);
    }
