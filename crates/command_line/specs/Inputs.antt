-- What is read in place of a trace.
use Rattle.std.specs.Prelude.{◌≡◌, codes}
use Rattle.command_line.specs.declared.request.Asked.{Asked}

-- a stroke stands for standard input
abbrev pub IsInput : Asked → Type 0
IsInput asked = asked.base.now ≡ codes "-"
