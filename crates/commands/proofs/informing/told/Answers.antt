use Rattle.std.proofs.Common.{subst}
use Rattle.script_runner.specs.declared.fault.SimFault.{SimFault}
use Rattle.commands.specs.Telling.{IsToldOf}
use Rattle.commands.specs.Naming.{IsToldAt}
use Rattle.commands.proofs.Telling.{told_as_1}
use Rattle.commands.proofs.informing.told.Goals as goal

pub returns-clause-told : goal.returns-clause-told
returns-clause-told c = subst (λ (fault : SimFault). IsToldAt c.args.files.now.place c.explained.new.self.store fault c.explained.result) c.fault_of_reading.ensures c.explained.ensures.named

pub returns-clause-status : goal.returns-clause-status
returns-clause-status c = told_as_1 c.args.fault c.explained.result (subst (λ (fault : SimFault). IsToldOf fault c.explained.result) c.fault_of_reading.ensures c.explained.ensures.told)
