use Rattle.std.proofs.Common.{◌≡◌, drop}
use Rattle.script_lines.specs.Keywords.{all_keywords, keyword_among}
use Rattle.script_lines.proofs.Keywords.{named_in}
use Rattle.script_lines.proofs.keyword.Keyword.named.Given as goal

-- the rows that are left give what all of them do
abbrev pub invariant-loop-named : goal.invariant-loop-named
invariant-loop-named l = named_in (drop l.named-index l.named-items) l.text ≡ keyword_among all_keywords l.text
