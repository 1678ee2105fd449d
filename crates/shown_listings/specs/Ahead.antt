-- Rows that end behind a writer that holds bytes back.
use Rattle.std.specs.Prelude.{◌≡◌, ℕ, Option, List, []}
use Rattle.std.specs.Io.KnownBytes.{append_known}
use Rattle.shown_listings.specs.declared.laid_out.RowsEnd.{RowsEnd}
use Rattle.shown_listings.specs.declared.laid_out.RowsEnd.TheVariants as ends
use Rattle.shown_listings.specs.declared.look.Rule.{Rule}
use Rattle.shown_listings.specs.Rows.{AreLines, ShowsRows, given_lines, laid_contents}

-- A writer held so much, and what was held back behind it. Rows were laid out of it, and some of it may be left, unless all are written.
pub record EndsRows (held : Option (List ℕ)) (whole : Type 0) (now : Option (List ℕ)) : Type 0 where
  pub rule : Rule
  pub start : Option (List ℕ)
  pub lines : List (List ℕ)
  pub rest : List ℕ
  pub left : List ℕ
  pub ended : RowsEnd
  pub is : held ≡ append_known (laid_contents rule start (given_lines lines rest)) left
  pub each : AreLines lines rest
  pub shows : ShowsRows rule (ended ≡ ends.Written) lines start now
  pub all : whole → (ended ≡ ends.Written) × (left ≡ [])
