use Rattle.std.proofs.Common.{rules}
use Rattle.stores.specs.FolderStore.{reads_of}
use Rattle.commands.specs.Files.{refused}
use Rattle.commands.proofs.Failing.{recover_fails}
use Rattle.commands.proofs.Keeping.{is_count}
use Rattle.commands.proofs.files.Files.kept.Goals as goal

pub returns-in-Ok-clause-counted : goal.returns-in-Ok-clause-counted
returns-in-Ok-clause-counted c = λ h. is_count (reads_of c.args.self.now.store) c.in-Ok.found c.args.skipped c.args.before c.args.incoming.now _ c.count_kept.result (c.in-Ok.ensures.recovers h) c.count_kept.ensures

pub returns-in-Ok-clause-failures : goal.returns-in-Ok-clause-failures
returns-in-Ok-clause-failures c = let device = c.look_over.ensures.device in recover_fails _ _ c.look_over.result device.no_failure device.failures

pub returns-in-Err-clause-failures : goal.returns-in-Err-clause-failures
returns-in-Err-clause-failures c = let device = c.look_over.ensures.device in recover_fails _ _ c.look_over.result device.no_failure device.failures

pub returns-in-Err-2-clause-failures : goal.returns-in-Err-2-clause-failures
returns-in-Err-2-clause-failures c = let device = c.look_over.ensures.device in recover_fails _ _ c.look_over.result device.no_failure device.failures

pub returns-in-Err-2-clause-counted : goal.returns-in-Err-2-clause-counted
returns-in-Err-2-clause-counted c = λ h. refused c.in-Err.fault (search rules) c.in-Err.ensures.device.failures.0 (c.in-Err.ensures.refuses h)
