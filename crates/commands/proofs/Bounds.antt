-- How many device calls are made one after the other.
use Rattle.std.proofs.Common.{◌≡◌, ◌≤◌, ◌+◌, ◌*◌, ℕ, suc, Bool, true, false, nat_lt, length, refl, subst, arith}
use Rattle.std.proofs.lemmas.Bool.Decides.{nat_tests}
use Rattle.std.specs.Prelude.{if◌then◌else◌, Result, Ok, Err}
use Rattle.std.proofs.Math.Nat.{suc-mul, mul-le-mul_right}
use Rattle.trace_store.specs.Disk.{Image}
use Rattle.segment.specs.Pieces.{pieces_to}
use Rattle.stores.specs.FolderStore.{reads_of, clock_of}
use Rattle.stores.specs.declared.folder_store.FolderStore.{FolderStore}
use Rattle.commands.specs.Openings.{most_to_begin}
use Rattle.commands.specs.Live.{most_calls, most_of_several, most_to_read}
use Rattle.commands.specs.Files.{OnlyLooks, most_to_tell, most_to_end, most_with}
use Rattle.faults.specs.declared.complaint.Complaint.{Complaint}

-- to read a trace, of one file or of several
pub most_read : (image : Image) (before now : ℕ) → now ≤ before + most_of_several image → (length image ≤ 1 → now ≤ before + most_calls image) → now ≤ before + most_to_read image
most_read image before now several once = by_test (nat_lt 1 (length image)) refl
  where
    by_test : (b : Bool) → nat_lt 1 (length image) ≡ b → now ≤ before + (if b then most_of_several image else most_calls image)
    by_test true is = several
    by_test false is = once (grind (arith, nat_tests))

-- to tell of a fault, after calls that only looked
pub tell_after : (old mid : FolderStore) (now most : ℕ) → OnlyLooks old mid → clock_of mid ≤ clock_of old + most → now ≤ clock_of mid + most_to_tell (reads_of mid) → now ≤ clock_of old + (most + most_to_tell (reads_of old))
tell_after old mid now most looks had told =
    let same = subst (λ (n : ℕ). now ≤ clock_of mid + (4 + pieces_to 1099511627780) * n) looks.count told in
    omega (arith, had, same)

-- and to see how much is kept
pub end_after : (old mid : FolderStore) (now : ℕ) → OnlyLooks old mid → clock_of mid ≤ clock_of old + most_to_tell (reads_of old) → now ≤ clock_of mid + (2 + pieces_to 1099511627780) * length (reads_of mid) → now ≤ clock_of old + most_to_end (reads_of old)
end_after old mid now looks had kept =
    let same = subst (λ (n : ℕ). now ≤ clock_of mid + (2 + pieces_to 1099511627780) * n) looks.count kept in
    omega (arith, had, same)

pub end_within : (before now : ℕ) (image : Image) → now ≤ before + most_to_tell image → now ≤ before + most_to_end image
end_within before now image told = omega (arith, told)

-- to see whether a file has a byte, after calls that only looked
pub look_after : (old mid : FolderStore) (now most : ℕ) → OnlyLooks old mid → clock_of mid ≤ clock_of old + most → now ≤ clock_of mid + 2 * length (reads_of mid) → now ≤ clock_of old + (most + 2 * length (reads_of old))
look_after old mid now most looks had seen =
    let same = subst (λ (n : ℕ). now ≤ clock_of mid + 2 * n) looks.count seen in
    omega (arith, had, same)

-- to open a port, after the front of each file was looked at
pub opens_after : (before mid now : ℕ) (image seen : Image) → seen ≡ image → mid ≤ before + 2 * length image → now ≤ mid + most_to_begin seen → now ≤ before + (2 * length image + most_to_begin image)
opens_after before mid now image seen same had opened =
    let begun = subst (λ (i : Image). now ≤ mid + most_to_begin i) same opened in
    omega (arith, had, begun)

-- no more than 5 readings
pub readings_at_most : (before mid now j m : ℕ) → j ≤ 4 → mid ≤ before + j * m → now ≤ mid + m → now ≤ before + 5 * m
readings_at_most before mid now j m few had made = omega (arith, few, had, made, suc-mul j m, mul-le-mul_right m (let less : suc j ≤ 5 = omega (arith, few) in less))

-- and more is allowed where a fault ends it
pub most_so : {T : Type 0} (result : Result T Complaint) (image : Image) (before now most : ℕ) → now ≤ before + most → now ≤ before + most_with result most image
most_so (Ok done) image before now most had = had
most_so (Err complaint) image before now most had = omega (arith, had)

-- of two readings, where the first failed
pub once_of_two : (before now most tell : ℕ) → now ≤ before + (most + tell) → now ≤ before + (2 * most + tell)
once_of_two before now most tell had = omega (arith, had)

-- where the second one did
pub both_of_two : (before mid now most tell : ℕ) → mid ≤ before + most → now ≤ mid + (most + tell) → now ≤ before + (2 * most + tell)
both_of_two before mid now most tell first second = omega (arith, first, second)

-- where neither did
pub most_of_two : {T : Type 0} (result : Result T Complaint) (image : Image) (before mid now most : ℕ) → mid ≤ before + most → now ≤ mid + most → now ≤ before + most_with result (2 * most) image
most_of_two (Ok done) image before mid now most first second = omega (arith, first, second)
most_of_two (Err complaint) image before mid now most first second = omega (arith, first, second)
