-- What a desk's book and an account count.
use Rattle.std.specs.Prelude.{ℕ, ◌+◌, ◌≤◌, List}
use Rattle.entry_codec.specs.Entries.{Entry, drops_in}
use Rattle.intake.specs.WaitingLists.{messages_in}
use Rattle.tracees.specs.declared.book.Totals.{Totals}
use Rattle.tracees.specs.declared.book.PlainBook.{PlainBook}
use Rattle.tracees.specs.declared.book.PlainAccount.{PlainAccount}

abbrev pub totals : (messages drops flushed : ℕ) → Totals
totals messages drops flushed = record { messages = messages; drops = drops; flushed = flushed }

-- nothing is counted yet
abbrev pub no_totals : Totals
no_totals = totals 0 0 0

-- with what these entries count
abbrev pub added : Totals → List Entry → Totals
added t entries = totals (t.messages + messages_in entries) (t.drops + drops_in entries) t.flushed

-- all messages are flushed
abbrev pub all_flushed : Totals → Totals
all_flushed t = totals t.messages t.drops t.messages

-- what a book of plain counts holds
abbrev pub plain_totals : PlainBook → Totals
plain_totals book = totals book.messages book.drops 0

-- and an account of plain counts
abbrev pub plain_sums : PlainAccount → Totals
plain_sums slip = totals slip.messages slip.drops slip.flushed

-- one counts no more than the other
pub record IsWithin (part whole : Totals) : Type 0 where
  pub messages : part.messages ≤ whole.messages
  pub drops : part.drops ≤ whole.drops
  pub flushed : part.flushed ≤ whole.flushed
