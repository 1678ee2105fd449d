use Rattle.std.proofs.Common.{rules}
use Rattle.stores.specs.FolderStore.{fault_of}
use Rattle.script_runner.specs.Faults.{IsOfDevice}
use Rattle.commands.specs.Naming.{in_use, of_file}
use Rattle.commands.proofs.Naming.{names_call}
use Rattle.commands.proofs.files.Files.of_device.Goals as goal
use Rattle.commands.proofs.files.Files.of_device.Goals.{then-is_held, else-is_held+in_ok-clone}

pub returns-clause-names : goal.returns-clause-names
returns-clause-names c =
    let of : IsOfDevice c.args.refusal = search rules in
    names_call c.args.self.now.place (fault_of c.args.self.now.store) c.in-Some.fault.now c.args.refusal c.if-is_held.result c.in-Some.ensures.is of
    (elim c.if-is_held.branch [
      | then-is_held w ↦ rw w.result-is (in_use c.in_ok-name.name (search rules) c.in_ok-name.ensures)
      | else-is_held+in_ok-clone w ↦ rw w.result-is (of_file c.in_ok-name.name w.in_ok-clone.field-0 (search rules) c.in_ok-name.ensures (search rules))
    ])
