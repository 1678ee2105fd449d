use Rattle.std.proofs.Common.{◌≡◌, ◌∙◌, ◌==◌, true, false, get_or, sym, arith}
use Rattle.std.proofs.lemmas.Bool.{and_from, and_left, and_right, eq-eqb, ne_eqb}
use Rattle.shown_listings.specs.Ends.{ends_empty}
use Rattle.shown_listings.proofs.Ending.{has-step, before-step, has-found, before-found, has-end}
use Rattle.shown_listings.proofs.end_writer.find_end.Goals.{else-is_fresh-via-then-is_fresh+else-is_feed, else-is_fresh-via-else-is_fresh}
use Rattle.shown_listings.proofs.end_writer.find_end.Goals as goal

pub returns-then-is_feed : goal.returns-then-is_feed
returns-then-is_feed c =
    let i = c.loop-index.index in
    let bytes = c.args.bytes.now in
    let fresh = c.loop-index.is_fresh in
    let so_far = c.loop-index.invariant in
    let at : ends_empty fresh (get_or bytes i 0) ≡ true = and_from fresh (get_or bytes i 0 == 10) c.if-is_fresh.true (eq-eqb (get_or bytes i 0) 10 c.if-is_feed.true) in
    (c.loop-index-test.true, sym (so_far.before ∙ before-found fresh bytes i c.loop-index-test.true at), so_far.has ∙ has-found fresh bytes i c.loop-index-test.true at)

pub loop-index-preserved : goal.loop-index-preserved
loop-index-preserved c =
    let i = c.loop-index.index in
    let bytes = c.args.bytes.now in
    let fresh = c.loop-index.is_fresh in
    let so_far = c.loop-index.invariant in
    let other : ends_empty fresh (get_or bytes i 0) ≡ false =
    elim c.else-is_fresh.branch [
      | else-is_fresh-via-then-is_fresh+else-is_feed w ↦ and_right fresh (get_or bytes i 0 == 10) (ne_eqb (get_or bytes i 0) 10 w.if-is_feed.false)
      | else-is_fresh-via-else-is_fresh w ↦ and_left fresh (get_or bytes i 0 == 10) w.if-is_fresh.false
    ] in
    record {
      within = omega arith;
      has = so_far.has ∙ has-step fresh bytes i c.loop-index-test.true other;
      before = so_far.before ∙ before-step fresh bytes i c.loop-index-test.true other;
    }

pub returns : goal.returns
returns c = c.loop-index.invariant.has ∙ has-end c.loop-index.is_fresh c.args.bytes.now c.loop-index.index c.loop-index-test.false
