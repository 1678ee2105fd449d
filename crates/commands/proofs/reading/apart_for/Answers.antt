use Rattle.std.proofs.Common.{rules, refl, arith}
use Rattle.commands.specs.Files.{none}
use Rattle.commands.proofs.Failing.{segment_fails}
use Rattle.commands.proofs.reading.apart_for.Goals as goal

pub returns-in-Some-Refused-clause-failures : goal.returns-in-Some-Refused-clause-failures
returns-in-Some-Refused-clause-failures g c = let device = c.disagreement.ensures.device in segment_fails _ _ c.disagreement.result device.no_failure device.failures

pub returns-in_default-clause-failures : goal.returns-in_default-clause-failures
returns-in_default-clause-failures g c = none

pub returns-in_default-2-clause-failures : goal.returns-in_default-2-clause-failures
returns-in_default-2-clause-failures g c = none

pub returns-in_default-3 : goal.returns-in_default-3
returns-in_default-3 g c = record { only_reads = search rules; failures = none; of_device = rw c.in_default.is (λ of. refl); alone = rw c.in_default.is (λ not. refl); at_most = omega arith; none = λ _. refl }

pub returns-in_default-4-clause-failures : goal.returns-in_default-4-clause-failures
returns-in_default-4-clause-failures g c = none
