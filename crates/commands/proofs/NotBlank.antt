-- Files of which one has a byte.
use Rattle.std.proofs.Common.{◌≡◌, ◌≤◌, ℕ, Bool, List, length, ap, arith}
use Rattle.trace_store.specs.Disk.{Image, file_of}
use Rattle.trace_store.specs.Moments.{Rose}
use Rattle.foreign_files.specs.Standing.{IsStanding}
use Rattle.foreign_files.specs.declared.standing.Standing.TheVariants as standings

pub ours_there : (image : Image) (before now : ℕ) → IsStanding standings.Ours image → IsStanding standings.Absent image → Rose before now
ours_there image before now there none = absurd (there.0.some (none there.0.file))

pub foreign_there : (image : Image) (file : ℕ) (is_stream : Bool) (before now : ℕ) → IsStanding (standings.Foreign file is_stream) image → IsStanding standings.Absent image → Rose before now
foreign_there image file is_stream before now there none =
    let long : 2 ≤ length (file_of image file) = there.0.foreign.some in
    let short : length (file_of image file) ≡ 0 = ap (λ (text : List ℕ). length text) (none file) in
    absurd (omega (arith, long, short))
