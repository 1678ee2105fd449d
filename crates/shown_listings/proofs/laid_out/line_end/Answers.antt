use Rattle.std.proofs.Common.{◌∙◌, ◌∷◌, [], ap, take, ◌++◌, arith}
use Rattle.std.proofs.lemmas.List.{take_more}
use Rattle.std.proofs.lemmas.List.Elements.{All-more}
use Rattle.std.specs.Prelude.{◌≢◌}
use Rattle.shown_listings.proofs.laid_out.line_end.Goals as goal

pub returns-then-byte-eq-FEED : goal.returns-then-byte-eq-FEED
returns-then-byte-eq-FEED c =
    let i = c.loop-index.index in
    let bytes = c.args.bytes.now in
    (c.loop-index-test.true, c.loop-index.invariant.other, take_more bytes i 0 c.loop-index-test.true ∙ ap (λ b. take i bytes ++ b ∷ []) c.if-byte-eq-FEED.true)

pub loop-index-preserved : goal.loop-index-preserved
loop-index-preserved c =
    let i = c.loop-index.index in
    let bytes = c.args.bytes.now in
    record {
      within = omega arith;
      other = All-more (λ b. b ≢ 10) bytes i 0 c.loop-index-test.true c.loop-index.invariant.other c.if-byte-eq-FEED.false;
    }
