-- Whether what was recorded ended well.
use Rattle.std.proofs.Common.{◌≡◌, Result, Ok, Err, false, is_err, refl}
use Rattle.faults.specs.declared.complaint.Complaint.{Complaint}

-- what is no fault is well
pub well : (r : Result Unit Complaint) → is_err r ≡ false → r ≡ Ok tt
well (Ok tt) e = refl
well (Err complaint) e = cc
