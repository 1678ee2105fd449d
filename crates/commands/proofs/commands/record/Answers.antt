use Rattle.std.proofs.Common.{refl, subst}
use Rattle.std.proofs.KnownBytes.{Keeps-refl, prepend_known-nil}
use Rattle.commands.specs.Commands.{IsOpened, IsNotOpened, runs, not_opened, no_memory}
use Rattle.commands.proofs.Naming.{told_moved}
use Rattle.commands.specs.Openings.{wanted}
use Rattle.trace_lookup.specs.declared.place.RunEnd.{RunEnd}
use Rattle.commands.proofs.commands.record.Goals as goal

pub returns-in_default : goal.returns-in_default
returns-in_default g c = no_memory c.from.result refl (Keeps-refl _) c.from.ensures

pub returns-in-Ok-open : goal.returns-in-Ok-open
returns-in-Ok-open g c =
    let e = c.in-Ok-open.ensures in
    let reader = c.in-Ok.ensures in
    runs c.record-done.result
    (subst (λ (run_end : RunEnd). IsOpened (wanted c.args.files.now.place.kind run_end) c.args.files.now.store c.open.new.self.store c.in-Ok-open.opened c.in-Ok-open.origin) c.of.ensures
    (record { suits = e.suits; opens = e.opens; ours = e.ours; moments = c.open.ensures.any_moment; was_honest = c.open.ensures.device.was_honest; no_failure = e.device.no_failure; at_most = c.open.ensures.device.at_most }))
    (rw (reader.capacity, reader.empty, reader.inner, prepend_known-nil (g.R.Read.remaining c.args.input)) at c.record-done.ensures) c.told.ensures

pub returns : goal.returns
returns g c =
    let told = c.explained.ensures in
    not_opened c.in-Err.fault c.explained.result
    (subst (λ (run_end : RunEnd). IsNotOpened (wanted c.args.files.now.place.kind run_end) c.args.files.now.store c.open.new.self.store c.in-Err.fault) c.of.ensures
    (record { why = c.in-Err.ensures.why_not; failed = c.in-Err.ensures.device.device; untouched = c.open.ensures.untouched; moments = c.open.ensures.any_moment; was_honest = c.open.ensures.device.was_honest; at_most = c.open.ensures.device.at_most }))
    (record { only_reads = told.only_reads; failures = told.failures; of_device = told.of_device; alone = told.alone; at_most = told.at_most }) (Keeps-refl _) (told_moved c.args.files.now.place c.open.new.self.place c.explained.new.self.store c.in-Err.fault c.in-Err.fault c.explained.result c.open.ensures.place refl told.named)
