use Rattle.std.proofs.Common.{refl}
use Rattle.script_lines.proofs.Words.{found_as}
use Rattle.script_lines.proofs.line.file_bytes.Goals as goal

pub returns : goal.returns
returns c = (c.in-Some-within.file, c.in-Some-2.found, record { word1 = c.in-Some.file.now; word2 = c.in-Some.hex.now; are = c.in-Some.ensures; spells1 = c.in-Some-within.ensures; spells2 = found_as _ _ _ _ c.in-Some-2.is c.in_ok-found.ensures }, refl)
