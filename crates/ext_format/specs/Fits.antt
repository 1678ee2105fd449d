-- Which data a `Term` can hold.
use Rattle.std.specs.Prelude.{◌^◌}
use Rattle.std.specs.Int.{w64}
use Rattle.std.specs.Int.RustNames.{FitsSigned}
use Rattle.trace_terms.specs.declared.term.Pid.{Pid}
use Rattle.trace_terms.specs.Data.{Data, int, atom, pid, tuple, list, binary, Members, no_members, member}
use Rattle.ext_format.specs.Spelling.{IsText, FitsPid}

-- a pid's node is an atom's text, and its numbers have 32 bits
abbrev pub FitsPidFields : Pid → Type 0
FitsPidFields p = IsText p.node × FitsPid (2 ^ 32) p

-- The numbers and the texts are those of the fields' types.
abbrev mutual
  pub Fits : Data → Type 0
  Fits (int z) = FitsSigned w64 z
  Fits (atom text) = IsText text
  Fits (pid p) = FitsPidFields p
  Fits (tuple ts) = AllFit ts
  Fits (list ts) = AllFit ts
  Fits (binary bytes) = Unit {0}

  pub AllFit : Members → Type 0
  AllFit no_members = Unit {0}
  AllFit (member t ts) = Fits t × AllFit ts
