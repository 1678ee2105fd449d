-- What is written of a store.
use Rattle.std.proofs.Common.{◌≡◌, ℕ, zero, suc, ◌+◌, ◌-◌, ◌<◌, Option, List, [], ◌++◌, length, slice_get, Result, Ok, Err, OnOk, OnErr, IfErr, inl, sym, ap, ◌∙◌, subst, arith, append_assoc}
use Rattle.std.proofs.lemmas.List.{append-nil}
use Rattle.std.specs.Io.KnownBytes.{Appends}
use Rattle.std.proofs.KnownBytes.{Appends-trans}
use Rattle.entry_codec.specs.Seen.{views}
use Rattle.trace_store.specs.Disk.{Image, file_of}
use Rattle.recovery.specs.Recovery.{Recovers, Refuses}
use Rattle.recovery.specs.CallCounts.{TellsRecover}
use Rattle.recovery.specs.declared.window.Recovered.{Recovered}
use Rattle.recovery.specs.declared.fault.RecoverFault.{RecoverFault}
use Rattle.trace_client.specs.Begun.{IsCutListing}
use Rattle.trace_client.specs.Output.{AppendsPrefix, AppendsPart}
use Rattle.trace_items.specs.declared.consumer.ConsumerFault.{ConsumerFault}
use Rattle.trace_items.specs.declared.consumer.ConsumerFault.TheVariants as listing
use Rattle.trace_text.specs.Lines.{plain}
use Rattle.script_runner.specs.declared.answer.Answer.TheVariants.{Refused}
use Rattle.script_runner.specs.declared.refusal.Refusal.TheVariants.{Recover}
use Rattle.script_runner.specs.declared.fault.SimFault.{SimFault}
use Rattle.script_runner.specs.declared.fault.SimFault.TheVariants as faults
use Rattle.script_runner.specs.Faults.{fault_of_list}
use Rattle.script_runner.specs.Texts.{line_of, state_text}
use Rattle.simulator.specs.Stored.{IsListed, IsListedInPart, lists_first, refuses_first, refuses, TellsFiles, all, AreStates, next}

-- a part of a listing was written
pub listed_in_part : (image : Image) (before now : ℕ) (found : Recovered) (was out : Option (List ℕ)) (fault : ConsumerFault) → Recovers image found → now ≡ before → IsCutListing plain fault found.first found.lost (views found.entries.items) was out
    → IsListedInPart image before now (λ text. Appends was out text) (fault_of_list fault)
listed_in_part image before now found was out listing.Write recovers same cut = lists_first found listing.Write recovers same cut.1 (record { missing = cut.2.left; is = cut.2.is }) cut.2.appends
listed_in_part image before now found was out listing.NoMemory recovers same cut = lists_first found listing.NoMemory recovers same (inl cut.1) (record { missing = []; is = sym (append-nil cut.0) }) cut.2

-- a refusal was, or a part of one
pub refused : (image : Image) (before now : ℕ) (fault : RecoverFault) (was out : Option (List ℕ)) (result : Result Unit SimFault) → Refuses image fault → TellsRecover before now fault
    → OnOk result (Appends was out (line_of (Refused (Recover fault)))) → OnErr result (AppendsPrefix was out (line_of (Refused (Recover fault)))) → IfErr result (λ fault. fault ≡ faults.Write) → IsListed image before now result (λ text. Appends was out text)
refused image before now fault was out (Ok done) reads cause wrote cut write = (line_of (Refused (Recover fault)), refuses fault reads cause, wrote)
refused image before now fault was out (Err other) reads cause wrote cut write =
    subst (λ (f : SimFault). IsListedInPart image before now (λ text. Appends was out text) f) (sym write) (refuses_first fault reads cause (record { missing = cut.left; is = cut.is }) cut.appends)

-- the line of the next file, as it was read
pub next_state : (image now : Image) (file : ℕ) (text : List ℕ) (size : ℕ) (gate : Option ℕ) → now ≡ image → size ≡ length (file_of now file) → gate ≡ slice_get (file_of now file) 0 → AreStates image file text → AreStates image (file + 1) (text ++ state_text file size gate)
next_state image now file text size gate same long first states =
    subst (λ (i : Image). AreStates i (file + 1) (text ++ state_text file size gate)) same
    (subst (λ (n : ℕ). AreStates now (file + 1) (text ++ state_text file n gate)) (sym long)
    (subst (λ (b : Option ℕ). AreStates now (file + 1) (text ++ state_text file (length (file_of now file)) b)) (sym first)
    (next (subst (λ (i : Image). AreStates i file text) (sym same) states))))

-- an answer was told after a text, or a part of it
pub told_behind : {E : Type 0} (result : Result Unit E) (was mid out : Option (List ℕ)) (text line : List ℕ) → Appends was mid text → OnOk result (Appends mid out line) → OnErr result (AppendsPrefix mid out line)
    → OnOk result (Appends was out (text ++ line)) × OnErr result (AppendsPrefix was out (text ++ line))
told_behind (Ok done) was mid out text line before wrote cut = (Appends-trans was mid out text line before wrote, tt)
told_behind (Err fault) was mid out text line before wrote cut = (
  tt,
  record {
    taken = text ++ cut.taken;
    left = cut.left;
    is = ap (λ (l : List ℕ). text ++ l) cut.is ∙ sym (append_assoc text cut.taken cut.left);
    appends = Appends-trans was mid out text cut.taken before cut.appends;
  },
)

-- the lines of more files
more_states : (image : Image) (file : ℕ) (text : List ℕ) (more : ℕ) → AreStates image file text → (rest : List ℕ) × AreStates image (file + more) (text ++ rest)
more_states image file text zero states =
    let same : file ≡ file + zero = omega arith in
    ([], subst (λ (n : ℕ). AreStates image n (text ++ [])) same (subst (λ (l : List ℕ). AreStates image file l) (sym (append-nil text)) states))
more_states image file text (suc more) states =
    let before = more_states image file text more states in
    let line = state_text (file + more) (length (file_of image (file + more))) (slice_get (file_of image (file + more)) 0) in
    let same : file + more + 1 ≡ file + suc more = omega arith in
    (before.0 ++ line, subst (λ (n : ℕ). AreStates image n (text ++ (before.0 ++ line))) same (subst (λ (l : List ℕ). AreStates image (file + more + 1) l) (append_assoc text before.0 line) (next before.1)))

-- the line of a file was written in part, after those of the files before it
pub told_in_part : (image : Image) (file : ℕ) (text line : List ℕ) (before now : ℕ) (was mid out : Option (List ℕ)) → file < length image → AreStates image (file + 1) (text ++ line) → now ≡ before → Appends was mid text → AppendsPart mid out line
    → (whole : List ℕ) × TellsFiles image before now whole × AppendsPrefix was out whole
told_in_part image file text line before now was mid out there states same wrote cut =
    let rest = more_states image (file + 1) (text ++ line) (length image - (file + 1)) states in
    let over : file + 1 + (length image - (file + 1)) ≡ length image = omega (arith, there) in (
      (text ++ line) ++ rest.0,
      all (subst (λ (n : ℕ). AreStates image n ((text ++ line) ++ rest.0)) over rest.1) same,
      record {
        taken = text ++ cut.taken;
        left = cut.left ++ rest.0;
        is = ap (λ (l : List ℕ). (text ++ l) ++ rest.0) cut.is ∙ ap (λ (l : List ℕ). l ++ rest.0) (sym (append_assoc text cut.taken cut.left)) ∙ append_assoc (text ++ cut.taken) cut.left rest.0;
        appends = Appends-trans was mid out text cut.taken wrote cut.appends;
      },
    )
