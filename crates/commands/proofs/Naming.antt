-- What is named of a fault.
use Rattle.std.proofs.Common.{◌≡◌, ◌⊎◌, ℕ, Option, Some, None, subst, ap, inl, inr}
use Rattle.stores.specs.FolderStore.{fault_of}
use Rattle.stores.specs.declared.fault.FileFault.{FileFault}
use Rattle.stores.specs.declared.folder_store.FolderStore.{FolderStore}
use Rattle.recovery.specs.declared.fault.RecoverFault.TheVariants as recovering
use Rattle.trace_port.specs.declared.create.CreateFault.TheVariants as creating
use Rattle.trace_port.specs.declared.resume.ResumeFault.TheVariants as resuming
use Rattle.trace_port.specs.declared.fault.PortFault.TheVariants as porting
use Rattle.script_runner.specs.declared.refusal.HandRefusal.TheVariants as handing
use Rattle.script_runner.specs.Faults.{IsOfDevice, IsFaultOfDevice}
use Rattle.script_runner.specs.declared.fault.SimFault.{SimFault}
use Rattle.script_runner.specs.declared.fault.SimFault.TheVariants as faults
use Rattle.script_runner.specs.declared.refusal.Refusal.{Refusal}
use Rattle.script_runner.specs.declared.refusal.Refusal.TheVariants as refusals
use Rattle.trace_lookup.specs.declared.place.Place.{Place}
use Rattle.faults.specs.Kept.{advice_with, complaint_with, fault_past}
use Rattle.faults.specs.declared.kept.Kept.{Kept}
use Rattle.faults.specs.declared.complaint.Advice.{Advice}
use Rattle.faults.specs.declared.complaint.Complaint.{Complaint}
use Rattle.faults.specs.declared.complaint.Complaint.TheVariants as complaints
use Rattle.commands.specs.Telling.{IsToldOf}
use Rattle.std.specs.String.{string_bytes}
use Rattle.commands.specs.Naming.{NamesCall, NamesCrowded, NotCrowded, Names, TellsCall, IsToldAt}
use Rattle.commands.proofs.Telling.{tells_kept}

-- what is told at a place is told of the fault
pub told_of : (place : Place) (store : FolderStore) (fault : SimFault) (complaint : Complaint) → IsToldAt place store fault complaint → IsToldOf fault complaint
told_of place store fault complaint told = elim told [
  | inl own ↦ inl own.0
  | inr other ↦ inr other
]

-- ---- with how much is kept

names_so : (place : Place) (newest : Option FileFault) (fault told : SimFault) (was advice : Option Advice) → Names place newest fault (complaints.Fault told was) → Names place newest fault (complaints.Fault told advice)
names_so place newest (faults.Refused refusal) told was advice h = h
names_so place newest fault told was advice h = tt

names_kept : (place : Place) (newest : Option FileFault) (kept : Option Kept) (fault : SimFault) (complaint : Complaint) → Names place newest fault complaint → Names place newest fault (complaint_with kept complaint)
names_kept place newest kept fault (complaints.Fault told (Some advice)) h = names_so place newest fault told (Some advice) (Some (advice_with kept advice)) h
names_kept place newest kept fault (complaints.Fault told None) h = h
names_kept place newest kept fault complaint h = h

pub told_kept_at : (place : Place) (store : FolderStore) (kept : Option Kept) (fault : SimFault) (complaint : Complaint) → IsToldAt place store fault complaint → IsToldAt place store fault (complaint_with kept complaint)
told_kept_at place store kept fault complaint told = elim told [
  | inl own ↦ inl (tells_kept kept fault complaint own.0, names_kept place (fault_of store) kept fault complaint own.1)
  | inr other ↦ inr (ap (complaint_with kept) other)
]

-- ---- by the store as it was before

of_device_or_not : (refusal : Refusal) → IsOfDevice refusal ⊎ (IsOfDevice refusal → ⊥)
of_device_or_not refusals.Device = inl tt
of_device_or_not (refusals.Recover recovering.Device) = inl tt
of_device_or_not (refusals.Create creating.Device) = inl tt
of_device_or_not (refusals.Resume (resuming.Recover recovering.Device)) = inl tt
of_device_or_not (refusals.Port porting.Device) = inl tt
of_device_or_not (refusals.Hand (handing.Port porting.Device moved)) = inl tt
of_device_or_not _ = inr (λ h. h)

-- a refusal that isn't of the device names no call
names_none : (place : Place) (was now : Option FileFault) (refusal : Refusal) (told : SimFault) → (IsOfDevice refusal → ⊥) → NamesCall place now refusal told → NamesCall place was refusal told
names_none place None None refusal told none h = h
names_none place (Some call) None refusal told none h = (λ of. absurd (none of), λ other. h)
names_none place None (Some call) refusal told none h = h.1 none
names_none place (Some before) (Some call) refusal told none h = (λ of. absurd (none of), λ other. h.1 none)

-- nor is it one of too many files
not_crowded : (newest : Option FileFault) (refusal : Refusal) → (IsOfDevice refusal → ⊥) → NotCrowded newest refusal
not_crowded None refusal none = tt
not_crowded (Some call) refusal none = λ of many. none of

names_before : (place : Place) (was now : Option FileFault) (fault : SimFault) (complaint : Complaint) → (IsFaultOfDevice fault → now ≡ was) → Names place now fault complaint → Names place was fault complaint
names_before place was now (faults.Refused refusal) (complaints.Fault told advice) same h = elim (of_device_or_not refusal) [
  | inl of ↦ subst (λ (newest : Option FileFault). NamesCall place newest refusal told × NotCrowded newest refusal) (same of) h
  | inr none ↦ (names_none place was now refusal told none h.0, not_crowded was refusal none)
]
names_before place was now (faults.Refused refusal) (complaints.TooManyOpen name files reason) same h = (h.0, subst (λ (newest : Option FileFault). NamesCrowded place newest (string_bytes name) reason) (same h.0) h.1)
names_before place was now (faults.Foreign file is_stream) (complaints.Foreign name looks_so) same h = h
names_before place was now faults.Absent (complaints.Absent name advice) same h = h
names_before place was now _ _ same h = tt

-- what is told of a fault by a store that was only looked at where it isn't of the device
pub told_before : (place : Place) (old now : FolderStore) (fault : SimFault) (complaint : Complaint) → (IsFaultOfDevice fault → now ≡ old) → IsToldAt place now fault complaint → IsToldAt place old fault complaint
told_before place old now fault complaint same told = elim told [
  | inl own ↦ inl (own.0, names_before place (fault_of old) (fault_of now) fault complaint (λ of. ap fault_of (same of)) own.1)
  | inr other ↦ inr other
]

-- the place of a fault of a stream isn't of the device
pub of_device_past : (skip : ℕ) (fault : SimFault) → IsFaultOfDevice (fault_past skip fault) → IsFaultOfDevice fault
of_device_past skip (faults.Refused refusal) of = of
of_device_past skip (faults.Truncated place) of = absurd of
of_device_past skip (faults.BadOp place) of = absurd of
of_device_past skip (faults.ZeroDrop place) of = absurd of
of_device_past skip _ of = of

-- ---- the same place and fault

pub told_moved : (was now : Place) (store : FolderStore) (given fault : SimFault) (complaint : Complaint) → now ≡ was → given ≡ fault → IsToldAt now store given complaint → IsToldAt was store fault complaint
told_moved was now store given fault complaint same is told = subst (λ (place : Place). IsToldAt place store fault complaint) same (subst (λ (f : SimFault). IsToldAt now store f complaint) is told)

-- ---- a call that the system refused

pub names_call : (place : Place) (newest : Option FileFault) (call : FileFault) (refusal : Refusal) (told : SimFault) → Some call ≡ newest → IsOfDevice refusal → TellsCall place refusal call told → NamesCall place newest refusal told
names_call place newest call refusal told is of tells = subst (λ (n : Option FileFault). NamesCall place n refusal told) is (λ h. tells, λ none. absurd (none of))
