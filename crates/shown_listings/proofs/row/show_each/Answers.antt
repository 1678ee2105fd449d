use Rattle.shown_listings.specs.Rows.{shown_byte}
use Rattle.shown_listings.proofs.RowLemmas.{changed-on}
use Rattle.shown_listings.proofs.row.show_each.Goals as goal

pub loop-byte-preserved : goal.loop-byte-preserved
loop-byte-preserved c = changed-on shown_byte c.args.bytes.now c.loop-byte.bytes c.loop-byte.byte-index 0 c.shown_byte.result c.loop-byte-test.true c.loop-byte.invariant c.shown_byte.ensures
