-- What an import tells: how its trace was opened, and what became of it.
use Rattle.std.proofs.Common.{◌≡◌, ◌⊎◌, inl, inr, ℕ, Option, List, [], Result, Ok, Err, IfErr, OnOk, OnErr, refl, sym, ap, subst, append-nil}
use Rattle.std.proofs.KnownBytes.{Appends-trans}
use Rattle.std.specs.Io.KnownBytes.{Appends}
use Rattle.std.specs.Result.{result_and}
use Rattle.stores.specs.declared.folder_store.FolderStore.{FolderStore}
use Rattle.stores.specs.contracts.folder_store.FolderStoreStore.TheImpl as folder
use Rattle.trace_store.specs.Device.{Device, device_of}
use Rattle.trace_client.specs.Output.{AppendsPrefix}
use Rattle.command_line.specs.declared.request.Rules.{Rules}
use Rattle.script_runner.specs.Answers.{opened_answer}
use Rattle.script_runner.specs.PortOpenings.{entries_found, first_told}
use Rattle.script_runner.specs.Texts.{line_of}
use Rattle.script_runner.specs.declared.fault.SimFault.{SimFault}
use Rattle.script_runner.specs.declared.fault.SimFault.TheVariants as faults
use Rattle.script_runner.specs.declared.opening.AnyOpening.{AnyOpening}
use Rattle.script_runner.specs.declared.opening.AnyOpening.TheVariants as openings
use Rattle.script_runner.specs.declared.reply.Origin.{Origin}
use Rattle.import.specs.Incoming.{Outside}
use Rattle.import.specs.declared.import.Imported.{Imported}
use Rattle.import.specs.declared.incoming.Incoming.{Incoming}
use Rattle.commands.specs.Importing.{import_done, closed_text, IsTextOf, WasPut, WasFed}

-- how many entries an opening found is what the port tells that is made of it
pub total_found : (opened : AnyOpening) (device : Device) → entries_found opened ≡ (first_told opened device).total
total_found (openings.File opening) device = refl
total_found (openings.Wrap opening) device = refl

abbrev Failed : Result Unit SimFault → Type 0
Failed (Ok done) = ⊥
Failed (Err fault) = Unit {0}

-- a text was told, or, where the writer failed, its beginning
told_so : (told result : Result Unit SimFault) (was now : Option (List ℕ)) (text : List ℕ) → OnOk told (Appends was now text) → OnErr told (AppendsPrefix was now text) → (Failed told → result ≡ Err faults.Write) → (begun : List ℕ) × IsTextOf result text begun × Appends was now begun
told_so (Ok x) result was now text wrote part failed = (text, record { missing = []; is = sym (append-nil text); whole = λ fine. refl }, wrote)
told_so (Err fault) result was now text wrote part failed = (part.taken, record { missing = part.left; is = part.is; whole = λ fine. absurd (fine (failed tt)) }, part.appends)

-- the writer's fault stands before any other
greeting_failed : (greeted told done : Result Unit SimFault) → IfErr greeted (λ fault. fault ≡ faults.Write) → Failed greeted → result_and (result_and greeted told) done ≡ Err faults.Write
greeting_failed (Ok x) told done write err = absurd err
greeting_failed (Err fault) told done write err = ap (λ (f : SimFault). let r : Result Unit SimFault = Err f in r) write

closing_failed : (greeted told done : Result Unit SimFault) → IfErr greeted (λ fault. fault ≡ faults.Write) → IfErr told (λ fault. fault ≡ faults.Write) → Failed told → result_and (result_and greeted told) done ≡ Err faults.Write
closing_failed greeted (Ok x) done write writes err = absurd err
closing_failed (Ok x) (Err fault) done write writes err = ap (λ (f : SimFault). let r : Result Unit SimFault = Err f in r) writes
closing_failed (Err first) (Err fault) done write writes err = ap (λ (f : SimFault). let r : Result Unit SimFault = Err f in r) write

answered : (greeted told done : Result Unit SimFault) → IfErr greeted (λ fault. fault ≡ faults.Write) → IfErr told (λ fault. fault ≡ faults.Write) → (result_and (result_and greeted told) done ≡ done) ⊎ (result_and (result_and greeted told) done ≡ Err faults.Write)
answered (Ok x) (Ok y) done write writes = inl refl
answered (Ok x) (Err fault) done write writes = inr (closing_failed (Ok x) (Err fault) done write writes tt)
answered (Err fault) told done write writes = inr (greeting_failed (Err fault) told done write tt)

pub fed_so : (opened : AnyOpening) (origin : Origin) (rules : Rules) (old new : FolderStore) (was is : Outside) (come : List ℕ) (incoming : Incoming) (imported : Imported) (greeted told done : Result Unit SimFault) (start mid now : Option (List ℕ)) → WasPut opened rules old new was is come incoming imported
    → done ≡ import_done imported.done → IfErr greeted (λ fault. fault ≡ faults.Write) → IfErr told (λ fault. fault ≡ faults.Write)
    → OnOk greeted (Appends start mid (line_of (opened_answer origin (first_told opened (device_of folder.ghosts old)).total))) → OnErr greeted (AppendsPrefix start mid (line_of (opened_answer origin (first_told opened (device_of folder.ghosts old)).total)))
    → OnOk told (Appends mid now (closed_text imported.closed imported.total)) → OnErr told (AppendsPrefix mid now (closed_text imported.closed imported.total))
    → WasFed opened origin rules old new was is come incoming (result_and (result_and greeted told) done) (λ text. Appends start now text)
fed_so opened origin rules old new was is come incoming imported greeted told done start mid now put same write writes greets greets_part tells tells_part =
    let result : Result Unit SimFault = result_and (result_and greeted told) done in
    let hello = told_so greeted result start mid _ greets greets_part (greeting_failed greeted told done write) in
    let last = told_so told result mid now _ tells tells_part (closing_failed greeted told done write writes) in
    record {
      imported = imported;
      put = put;
      answer = subst (λ (d : Result Unit SimFault). (result ≡ d) ⊎ (result ≡ Err faults.Write)) same (answered greeted told done write writes);
      hello = hello.0;
      greets = hello.1;
      last = last.0;
      closes = last.1;
      text = Appends-trans start mid now hello.0 last.0 hello.2 last.2;
    }
