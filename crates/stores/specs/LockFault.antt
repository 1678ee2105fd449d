-- Why a store isn't locked.
use Rattle.std.specs.Prelude.{ℕ}
use Rattle.stores.specs.declared.fault.LockFault.{LockFault}
use Rattle.stores.specs.declared.fault.LockFault.TheVariants.{Held, Failed}

-- the file that isn't locked
abbrev pub file_of : LockFault → ℕ
file_of (Held file) = file
file_of (Failed file reason) = file
