use Rattle.std.proofs.Common.{refl, sym, subst, ◌∙◌}
use Rattle.std.proofs.KnownBytes.{Keeps-refl}
use Rattle.trace_reader.specs.Observing.{Observations}
use Rattle.commands.specs.Commands.{IsExplained, Feeds, IsOpened, IsNotOpened, feeds, not_opened}
use Rattle.commands.specs.Openings.{wanted}
use Rattle.trace_lookup.specs.Places.{run_end_of}
use Rattle.trace_lookup.specs.declared.place.RunEnd.{RunEnd}
use Rattle.trace_lookup.specs.declared.place.Place.{Place}
use Rattle.commands.specs.Naming.{IsToldAt}
use Rattle.commands.proofs.Naming.{told_moved}
use Rattle.commands.proofs.Keeping.{told_found}
use Rattle.commands.proofs.commands.feed.Goals as goal

pub returns-in-Ok : goal.returns-in-Ok
returns-in-Ok g c = λ first saw looks own begins.
    let e = c.in-Ok.ensures in
    let end = c.import-done.new.source in
    let kind = c.args.files.now.place.kind in
    let fed = c.import-done.ensures.was_fed begins.mid begins.chunk begins.came in
    subst (λ (observed : Observations). Feeds c.args.files.now.place (wanted kind (run_end_of c.args.asked.now)) c.args.rules first c.import_told.new.self.store saw observed
    (g.W.Write.contents c.args.watched.now.writer.now) (g.W.Write.contents c.import-done.new.writer) c.import_told.result) (sym c.clear.ensures.same)
    (feeds begins (g.I.Source.remaining end) (g.I.Source.reads end) fed.0 c.import-done.new.incoming c.import-done.result.done looks
    (subst (λ (run_end : RunEnd). IsOpened (wanted kind run_end) c.args.files.now.store c.open.new.self.store c.in-Ok.opened c.in-Ok.origin) c.of.ensures
    (record { suits = e.suits; opens = e.opens; ours = e.ours; moments = c.open.ensures.any_moment; was_honest = c.open.ensures.device.was_honest; no_failure = e.device.no_failure; at_most = c.open.ensures.device.at_most }))
    fed.1 c.import_told.ensures.only_reads c.import_told.ensures.failures c.import_told.ensures.at_most c.import_told.ensures.well
    (subst (λ (place : Place). IsExplained (IsToldAt place c.import-done.new.self.store) c.args.rules.skip c.import-done.result.done c.import_told.result) (c.import-done.ensures.place ∙ c.open.ensures.place) c.import_told.ensures.explained)
    (told_found c.in-Ok.opened c.in-Ok.origin c.args.rules c.open.new.self.store c.import-done.new.self.store c.import_told.new.self.store begins.mid _ fed.0 c.import-done.new.incoming c.import-done.result.done _ c.args.rules.skip c.import-done.result.before c.import_told.result
    fed.1 c.import_told.ensures.only_reads c.import-done.ensures.before c.import_told.ensures.counted))

pub returns-in-Err : goal.returns-in-Err
returns-in-Err g c = λ first saw looks own begins.
    let told = c.explained.ensures in
    not_opened c.in-Err.fault c.explained.result begins looks own
    (subst (λ (run_end : RunEnd). IsNotOpened (wanted c.args.files.now.place.kind run_end) c.args.files.now.store c.open.new.self.store c.in-Err.fault) c.of.ensures
    (record { why = c.in-Err.ensures.why_not; failed = c.in-Err.ensures.device.device; untouched = c.open.ensures.untouched; moments = c.open.ensures.any_moment; was_honest = c.open.ensures.device.was_honest; at_most = c.open.ensures.device.at_most }))
    (record { only_reads = told.only_reads; failures = told.failures; of_device = told.of_device; alone = told.alone; at_most = told.at_most }) refl (Keeps-refl _) (told_moved c.args.files.now.place c.open.new.self.place c.explained.new.self.store c.in-Err.fault c.in-Err.fault c.explained.result c.open.ensures.place refl told.named)
