use Rattle.std.proofs.Common.{rules}
use Rattle.json.specs.Print.{escape_byte}
use Rattle.trace_text.specs.Objects.{object_text}
use Rattle.shown_listings.proofs.rows.is_end.Goals as goal

pub returns : goal.returns
unfolding object_text escape_byte
returns c = search rules
