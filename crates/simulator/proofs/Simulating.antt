-- What comes of a line of a script while no port is held.
use Rattle.std.proofs.Common.{◌≡◌, ◌<◌, ℕ, length, Bool, false, Option, None, List, [], replicate, Result, Ok, Err, IsErr, OnOk, OnErr, IfOk, IfErr, ◌↔◌, inl, inr, refl, sym, subst}
use Rattle.std.specs.Io.KnownBytes.{Appends, Keeps}
use Rattle.std.proofs.KnownBytes.{Appends-nil}
use Rattle.trace_client.specs.Output.{AppendsPrefix}
use Rattle.stores.specs.declared.mem_store.MemStore.{MemStore}
use Rattle.segment.specs.Specification.{Spec, File}
use Rattle.recovery.specs.CallCounts.{most_in}
use Rattle.trace_port.specs.Openings.{IsKept}
use Rattle.trace_port.proofs.Leaving.{weaker}
use Rattle.trace_port.specs.Limits.{greatest_limit}
use Rattle.trace_port.specs.declared.create.CreateFault.TheVariants as creating
use Rattle.wrap_port.specs.WrapSpecs.{wrap_seen}
use Rattle.wrap_port.specs.declared.spec.WrapSpec.{WrapSpec}
use Rattle.wrap_port.specs.declared.spec.BadSpec.{BadSpec}
use Rattle.script_runner.specs.PortOpenings.{IsNoSpec}
use Rattle.script_runner.specs.declared.opening.AnyOpening.{AnyOpening}
use Rattle.script_runner.specs.declared.refusal.Refusal.{Refusal}
use Rattle.script_runner.specs.declared.refusal.Refusal.TheVariants as refusals
use Rattle.script_runner.specs.declared.reply.Origin.{Origin}
use Rattle.recovery.specs.Stores.{turns}
use Rattle.stores.specs.MemStore.{reads_of, failures_of}
use Rattle.script_lines.specs.Reading.{Progress}
use Rattle.std.specs.declared.vec.Vec.{Vec}
use Rattle.std.specs.declared.alloc.Global.{Global}
use Rattle.script_lines.specs.declared.line.Unsynced.{Unsynced}
use Rattle.script_lines.specs.declared.line.Line.{Line}
use Rattle.script_lines.specs.declared.line.Line.TheVariants as lines
use Rattle.script_runner.specs.Read.{stretch, first_lines}
use Rattle.simulator.specs.Simulated.{device, IsNew, IsOfStore, Does, lists, Fails, answers_in_part, lists_in_part, DoesOrFails, IsOver, IsFinished, told, not_told, failed, LooksBy, IsRunWhole, LeavesSo, ComesOf, opens, opens_not, Begins, BeginsWrap, Opens, Simulates, IsRun, runs, not_written_out, first_of}
use Rattle.simulator.specs.Stored.{IsListed}
use Rattle.script_runner.specs.declared.fault.SimFault.TheVariants as faults
use Rattle.script_runner.specs.declared.fault.SimFault.{SimFault}
use Rattle.script_runner.specs.declared.reply.Leave.{Leave}
use Rattle.script_runner.specs.declared.reply.Stop.{Stop}
use Rattle.script_runner.specs.declared.reply.Stop.TheVariants as stops
use Rattle.script_runner.specs.declared.reply.Origin.TheVariants.{Resumed}

-- a line was run whole, in a script of the same kind
pub whole_so : (of_desk here : Bool) (line : Line) (old new : MemStore) (behind to : Progress) (result : Result Unit SimFault) (was now : Option (List ℕ)) → here ≡ of_desk → IsRunWhole line old new (stretch here behind to) result was now
    → IsRunWhole line old new (stretch of_desk behind to) result was now
whole_so of_desk here line old new behind to result was now same run = subst (λ (d : Bool). IsRunWhole line old new (stretch d behind to) result was now) same run

-- nothing was written to make it
pub only_kept : (spec : Spec) (old new : MemStore) → IsKept (device old) (device new) → LeavesSo Resumed spec old new
only_kept spec old new kept = weaker (device old) (device new) (device old).images _ (λ image was. inl was) (kept.moments tt)

-- a wrap was begun, where there is one
pub begins_wrap : (made : Result WrapSpec BadSpec) (spec : Spec) (old new : MemStore) (result : Result (Option (AnyOpening × Origin)) Refusal) → (IsErr made ↔ IsNoSpec spec) → IfOk made (λ wrap. wrap_seen wrap ≡ spec) → IfOk made (λ wrap. Begins (length (reads_of old) < turns (wrap_seen wrap)) (wrap_seen wrap) greatest_limit old new result)
    → OnErr made ((new ≡ old) × (result ≡ Err (refusals.Create creating.BadSpec))) → BeginsWrap spec old new result
begins_wrap (Ok wrap) spec old new result refused is begins none = inl (subst (λ (s : Spec). Begins (length (reads_of old) < turns s) s greatest_limit old new result) is begins)
begins_wrap (Err bad) spec old new result refused is begins none = inr (refused.0 refl, none.0, none.1)

-- no port is opened where there is neither one nor a refusal
is_some : {Fault : Type 0} {name : Fault → Refusal} {Tells : ℕ → ℕ → Fault → Type 0} {Why : Fault → Type 0} {Calls : Type 0} {origin : Origin} {spec : Spec} {limit : ℕ} {old new : MemStore} {result : Result (Option (AnyOpening × Origin)) Refusal} → ComesOf name Tells Why Calls origin spec limit old new result → result ≡ Ok None → ⊥
is_some (opens found moments failures calls) none = absurd (cc)
is_some (opens_not moments why failures) none = absurd (cc)

-- a line that opens no port leaves the store
pub left_alone : (line : Line) (old new : MemStore) (result : Result (Option (AnyOpening × Origin)) Refusal) → Opens line old new result → result ≡ Ok None → new ≡ old
left_alone (lines.CreateFile limit) old new result comes none = absurd (is_some comes none)
left_alone (lines.ResumeFile limit) old new result comes none = absurd (is_some comes none)
left_alone (lines.CreateWrap size count) old new result (inl comes) none = absurd (is_some comes none)
left_alone (lines.CreateWrap size count) old new result (inr left) none = left.1
left_alone (lines.CreateTime millis count) old new result (inl comes) none = absurd (is_some comes none)
left_alone (lines.CreateTime millis count) old new result (inr left) none = left.1
left_alone lines.ResumeWrap old new result comes none = absurd (is_some (comes File) none)
left_alone _ old new result comes none = comes.0

-- a line that is none of those for a store
pub not_of_store : (line : Line) → ((files : ℕ) → line ≡ lines.Store files → ⊥) → ((file : ℕ) (bytes : Vec ℕ Global) → line ≡ lines.Bytes file bytes → ⊥) → ((calls : ℕ) → line ≡ lines.Fuse calls → ⊥) → ((calls : ℕ) → line ≡ lines.FailOnce calls → ⊥)
    → ((unsynced : Unsynced) → line ≡ lines.Crash unsynced → ⊥) → (line ≡ lines.Files → ⊥) → (line ≡ lines.List → ⊥) → (line ≡ lines.Wipe → ⊥) → IsOfStore line → ⊥
not_of_store (lines.Store files) store bytes fuse once crash look list wipe of = store files refl
not_of_store (lines.Bytes file own) store bytes fuse once crash look list wipe of = bytes file own refl
not_of_store (lines.Fuse calls) store bytes fuse once crash look list wipe of = fuse calls refl
not_of_store (lines.FailOnce calls) store bytes fuse once crash look list wipe of = once calls refl
not_of_store (lines.Crash unsynced) store bytes fuse once crash look list wipe of = crash unsynced refl
not_of_store lines.Files store bytes fuse once crash look list wipe of = look refl
not_of_store lines.List store bytes fuse once crash look list wipe of = list refl
not_of_store lines.Wipe store bytes fuse once crash look list wipe of = wipe refl
not_of_store _ store bytes fuse once crash look list wipe of = of

-- an answer was told, or a part of it: after a line that makes no port
pub does_so : (result : Result Unit SimFault) (line : Line) (old new : MemStore) (was now : Option (List ℕ)) (text : List ℕ) → Does old new line text → OnOk result (Appends was now text) → OnErr result (AppendsPrefix was now text) → IfErr result (λ fault. fault ≡ faults.Write)
    → DoesOrFails line old new result (λ text. Appends was now text)
does_so (Ok done) line old new was now text does wrote cut fault = (text, does, wrote)
does_so (Err other) line old new was now text does wrote cut fault =
    subst (λ (f : SimFault). Fails old new (λ text. Appends was now text) line f) (sym fault) (answers_in_part does (record { missing = cut.left; is = cut.is }) cut.appends)

-- or after one whose port is no more
pub finished_so : (result : Result Unit SimFault) (was_left left : Result (Option Leave) Stop) (old new : MemStore) (was now : Option (List ℕ)) (text : List ℕ) → was_left ≡ left → IsOver left old new text → OnOk result (Appends was now text) → OnErr result (AppendsPrefix was now text)
    → IfErr result (λ fault. fault ≡ faults.Write) → IsFinished old new (λ text. Appends was now text) was_left result
finished_so (Ok done) was_left left old new was now text is over wrote cut fault = subst (λ (l : Result (Option Leave) Stop). IsFinished old new (λ text. Appends was now text) l (Ok tt)) (sym is) (told over wrote)
finished_so (Err other) was_left left old new was now text is over wrote cut fault =
    subst (λ (l : Result (Option Leave) Stop). IsFinished old new (λ text. Appends was now text) l (Err other)) (sym is)
    (subst (λ (f : SimFault). IsFinished old new (λ text. Appends was now text) left (Err f)) (sym fault) (not_told over (record { missing = cut.left; is = cut.is }) cut.appends))

-- or after one that a fault ended
pub failed_so : (was_left : Result (Option Leave) Stop) (fault : SimFault) (store : MemStore) (out : Option (List ℕ)) → was_left ≡ Err (stops.Failed fault) → IsFinished store store (λ text. Appends out out text) was_left (Err fault)
failed_so was_left fault store out is = subst (λ (l : Result (Option Leave) Stop). IsFinished store store (λ text. Appends out out text) l (Err fault)) (sym is) (failed refl (Appends-nil out))

-- a store was listed, or a part of that
pub lists_so : (result : Result Unit SimFault) (old new : MemStore) (Writes : List ℕ → Type 0) → IsListed (reads_of old) (failures_of old) (failures_of new) result Writes → LooksBy (most_in (reads_of old)) old new → DoesOrFails lines.List old new result Writes
lists_so (Ok done) old new Writes listed looked = (listed.0, lists listed.1 looked, listed.2)
lists_so (Err fault) old new Writes listed looked = lists_in_part listed looked

-- a script was run, and what it wrote was written out or not
pub is_run : (old new : MemStore) (count : ℕ) (had has was mid now : Option (List ℕ)) (done flushed : Result Unit SimFault) → IsNew old (replicate 1 []) → Simulates old new (first_lines false count had has) was mid done → Keeps mid now → IfErr flushed (λ fault. fault ≡ faults.Write)
    → IsRun had has was now (first_of done flushed)
is_run old new count had has was mid now (Ok done) (Ok out) blank run keeps written = runs count blank run keeps
is_run old new count had has was mid now (Ok done) (Err fault) blank run keeps written = subst (λ (f : SimFault). IsRun had has was now (Err f)) (sym written) (not_written_out count blank run keeps)
is_run old new count had has was mid now (Err fault) flushed blank run keeps written = runs count blank run keeps
