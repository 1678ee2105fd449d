use Rattle.std.proofs.Common.{Err, ◌∙◌, ap, refl}
use Rattle.segment.specs.Specification.{File}
use Rattle.recovery.specs.Stores.{is_blank}
use Rattle.script_runner.specs.PortOpenings.{begins, goes_on}
use Rattle.simulator.specs.Simulated.{opens, opens_not}
use Rattle.simulator.proofs.Simulating.{begins_wrap, only_kept}
use Rattle.simulator.proofs.sim.open.Goals as goal

pub returns-in-Ok-clause-opens : goal.returns-in-Ok-clause-opens
returns-in-Ok-clause-opens c =
    let e = c.in-Ok.ensures in
    let made = c.begin_create.ensures.creates in
    rw c.in-CreateFile.is (opens (begins (is_blank (e.created.blank tt)) refl e.limit (e.fits tt)) (made.any_moment tt, made.not_blank_stays tt) e.device.no_failure (e.created.calls tt))

pub returns-in-Err-clause-opens : goal.returns-in-Err-clause-opens
returns-in-Err-clause-opens c =
    let e = c.in-Err.ensures in
    let made = c.begin_create.ensures.creates in
    rw c.in-CreateFile.is (opens_not (made.any_moment tt, made.not_blank_stays tt) (e.refused, λ bad. c.begin_create.ensures.bad_spec.0 (c.in-Err.is ∙ ap Err bad)) e.device.failures)

pub returns-in-Ok-begin_resume-clause-opens : goal.returns-in-Ok-begin_resume-clause-opens
returns-in-Ok-begin_resume-clause-opens c =
    let e = c.in-Ok-begin_resume.ensures in
    let found = e.fits tt in
    rw c.in-ResumeFile.is (opens (goes_on found.0 found.1 e.limit found.2) (only_kept File c.args.store.now c.begin_resume.new.store c.begin_resume.ensures.device.kept) e.device.no_failure (e.calls tt))

pub returns-in-Err-begin_resume-clause-opens : goal.returns-in-Err-begin_resume-clause-opens
returns-in-Err-begin_resume-clause-opens c =
    let e = c.in-Err-begin_resume.ensures in
    rw c.in-ResumeFile.is (opens_not (only_kept File c.args.store.now c.begin_resume.new.store c.begin_resume.ensures.device.kept) (e.refused, λ bad. c.begin_resume.ensures.bad_spec.0 (c.in-Err-begin_resume.is ∙ ap Err bad)) e.device.failures)

pub returns-in-CreateWrap-clause-opens : goal.returns-in-CreateWrap-clause-opens
returns-in-CreateWrap-clause-opens c =
    let made = c.new.ensures in
    let e = c.create_wrap.ensures in
    rw c.in-CreateWrap.is (begins_wrap c.new.result _ c.args.store.now c.create_wrap.new.store _ made.refused made.spec e.opens e.no_wrap)

pub returns-in-CreateTime-clause-opens : goal.returns-in-CreateTime-clause-opens
returns-in-CreateTime-clause-opens c =
    let made = c.timed.ensures in
    let e = c.create_wrap-in-CreateTime.ensures in
    rw c.in-CreateTime.is (begins_wrap c.timed.result _ c.args.store.now c.create_wrap-in-CreateTime.new.store _ made.refused made.spec e.opens e.no_wrap)

pub returns-in-Ok-begin_resume-2-clause-opens : goal.returns-in-Ok-begin_resume-2-clause-opens
returns-in-Ok-begin_resume-2-clause-opens c =
    let e = c.in-Ok-begin_resume-2.ensures in
    let found = e.fits tt in
    rw c.in-ResumeWrap.is (λ spec. opens (goes_on found.0 found.1 c.in-Ok-begin_resume-2.opening.longest found.2) (c.begin_resume-in-ResumeWrap.ensures.any_moment tt) e.device.no_failure (e.calls tt))

pub returns-in-Err-begin_resume-2-clause-opens : goal.returns-in-Err-begin_resume-2-clause-opens
returns-in-Err-begin_resume-2-clause-opens c =
    let e = c.in-Err-begin_resume-2.ensures in
    rw c.in-ResumeWrap.is (λ spec. opens_not (c.begin_resume-in-ResumeWrap.ensures.any_moment tt) e.refused e.device.failures)
