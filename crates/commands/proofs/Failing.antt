-- Device calls that may have failed.
use Rattle.std.proofs.Common.{◌≡◌, ℕ, Result, Ok, Err, OnOk, IfErr, refl, sym, subst}
use Rattle.segment.specs.DeviceCalls.{TellsSegment}
use Rattle.segment.specs.declared.reading.SegmentFault.{SegmentFault}
use Rattle.segment.specs.declared.reading.SegmentFault.TheVariants as segments
use Rattle.recovery.specs.CallCounts.{TellsRecover}
use Rattle.recovery.specs.declared.fault.RecoverFault.{RecoverFault}
use Rattle.recovery.specs.declared.fault.RecoverFault.TheVariants as stores
use Rattle.commands.specs.Files.{MayFail, none, more}

none_failed : (before now : ℕ) → now ≡ before → MayFail before now
none_failed before now same = subst (λ (n : ℕ). MayFail before n) (sym same) none

-- in a reading of one file after the other
pub segment_fails : {T : Type 0} (before now : ℕ) (result : Result T SegmentFault) → OnOk result (now ≡ before) → IfErr result (TellsSegment before now) → MayFail before now
segment_fails before now (Ok value) same tells = none_failed before now same
segment_fails before now (Err (segments.Damaged file place)) same tells = none_failed before now (tells.1 (λ e. cc))
segment_fails before now (Err segments.Device) same tells = more none (tells.0 refl)
segment_fails before now (Err segments.NoMemory) same tells = none_failed before now (tells.1 (λ e. cc))

-- in a reading of a store
pub recover_fails : {T : Type 0} (before now : ℕ) (result : Result T RecoverFault) → OnOk result (now ≡ before) → IfErr result (TellsRecover before now) → MayFail before now
recover_fails before now (Ok value) same tells = none_failed before now same
recover_fails before now (Err (stores.Damaged file place)) same tells = none_failed before now (tells.1 (λ e. cc))
recover_fails before now (Err stores.Mixed) same tells = none_failed before now (tells.1 (λ e. cc))
recover_fails before now (Err stores.Sequence) same tells = none_failed before now (tells.1 (λ e. cc))
recover_fails before now (Err stores.Device) same tells = more none (tells.0 refl)
recover_fails before now (Err stores.NoMemory) same tells = none_failed before now (tells.1 (λ e. cc))

-- in some calls and then in others
pub fails_both : (before mid now : ℕ) → MayFail before mid → MayFail mid now → MayFail before now
fails_both before mid now first none = first
fails_both before mid now first (more {mid = between} second rose) = more (fails_both before mid between first second) rose
