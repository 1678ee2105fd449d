use Rattle.std.proofs.Common.{◌≡◌, ◌≤◌, ◌++◌, length, drop}
use Rattle.shown_listings.specs.Rows.{Sends, rows_in, text_of_rows}
use Rattle.shown_listings.proofs.sending.send_held.Given as goal

-- The rows that were begun since are those that are no longer held, and all of the last one was taken.
abbrev pub invariant-rows : goal.invariant-rows
invariant-rows g l = record {
  sends : Sends (g.W.Write.contents l.fn.out) l.fn.written (drop l.fn.unsent.taken l.fn.unsent.bytes.items) (text_of_rows l.fn.laid.items)
      → Sends (g.W.Write.contents l.out) l.written (drop l.unsent.taken l.unsent.bytes.items) (text_of_rows l.laid.items);
  rows : l.laid.items ++ rows_in l.held.items ≡ l.fn.laid.items ++ rows_in l.fn.held.items;
  start : l.written.start ≡ l.fn.written.start;
  sent : length l.unsent.bytes.items ≤ l.unsent.taken;
}

abbrev pub decreases-rows : goal.decreases-rows
decreases-rows g l = length l.held.items
