-- How many files may be open at once.
use Rattle.std.specs.Prelude.{◌≡◌, ◌⊎◌, pos, Some}
use Rattle.std.specs.IoError.{raw_os_error}
use Rattle.std.specs.declared.io.Error.{Error}

-- the system's numbers for too many open files, of the machine and of the process
abbrev pub IsTooMany : Error → Type 0
IsTooMany reason = (raw_os_error reason ≡ Some (pos 23)) ⊎ (raw_os_error reason ≡ Some (pos 24))
