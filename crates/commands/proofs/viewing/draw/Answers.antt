use Rattle.std.proofs.Common.{◌∙◌, Err, [], inr, refl, subst, sym}
use Rattle.std.proofs.lemmas.Result.{err_from_is_err_and}
use Rattle.stores.specs.FolderStore.{reads_of}
use Rattle.trace_views.specs.Taking.{IsWhyStopped}
use Rattle.trace_lookup.specs.declared.place.Place.{Place}
use Rattle.trace_text.specs.Chooses.{asks_where}
use Rattle.commands.specs.Viewing.{TellsStop, not_shown}
use Rattle.commands.proofs.Viewed.{all_seen, drawing_so, exported_again, found_again, reads_again, reads_once, reads_twice, shown_so, stopped, whichever}
use Rattle.commands.proofs.viewing.draw.Goals as goal

pub returns-in_err-seen-clause-ended : goal.returns-in_err-seen-clause-ended
returns-in_err-seen-clause-ended g c =
    let p = err_from_is_err_and c.from_residual.result c.from_residual.ensures.1 in
    rw (p.1, p.2) (reads_once _ _ c.in_err-seen.ensures.viewed (λ why. not_shown _ (whichever _ _ _ _ why) (inr tt)))

pub returns-in_err-drawn-clause-ended : goal.returns-in_err-drawn-clause-ended
returns-in_err-drawn-clause-ended g c =
    let p = err_from_is_err_and c.from_residual-in_err-drawn.result c.from_residual-in_err-drawn.ensures.1 in
    rw (p.1, p.2) (reads_again _ _ _ c.in_ok-seen.ensures.viewed c.in_err-drawn.ensures.viewed
    (λ same first why. not_shown _ (whichever _ _ _ _ (found_again c.args.files.now.place c.see_ends.new.files.place c.look_at.new.files.store (reads_of c.args.files.now.store) (reads_of c.see_ends.new.files.store) c.in_err-drawn.field-0.0 c.in_ok-seen.ensures.place same why)) (inr tt)))

pub returns-in-Ok-clause-ended : goal.returns-in-Ok-clause-ended
returns-in-Ok-clause-ended g c =
    let asks = asks_where c.args.choice in
    let image = reads_of c.args.files.now.store in
    let entries = c.in_ok-drawn.drawn.taken.entries in
    let first = c.end-ended.new.self.drawing.clock.first in
    let out = c.write_out.ensures in
    reads_twice _ _ _ c.write_out.result c.in_ok-seen.ensures.viewed c.in_ok-drawn.ensures.viewed (λ same looked viewed.
    shown_so _ _ _ asks _ _ image entries c.write_all.result c.write_out.result
    (drawing_so _ _ _ first c.deref.result.now c.write_all.result (c.deref.ensures.value ∙ c.in-Ok.ensures.ending) c.write_all.ensures.bytes out.stays) out.well out.failed
    (exported_again asks image _ entries same (all_seen asks _ _ entries c.new-view.ensures viewed.0)))

pub returns-in-Err-clause-ended : goal.returns-in-Err-clause-ended
returns-in-Err-clause-ended g c =
    let failed : IsWhyStopped c.end-ended.new.self.fault c.in-Err.fault = rw c.in-Err.ensures.fails refl in
    let told = subst (λ (place : Place). TellsStop place.base.now c.in-Err.fault c.stopped.result) (c.in_ok-drawn.ensures.place ∙ c.in_ok-seen.ensures.place) c.stopped.ensures.told in
    let refused = stopped (λ perfetto. perfetto.fault) _ _ _ c.end-ended.new.self c.in-Err.fault c.stopped.result failed told in
    reads_twice {U = Unit} _ _ _ (Err c.stopped.result) c.in_ok-seen.ensures.viewed c.in_ok-drawn.ensures.viewed (λ same looked viewed. not_shown _ (whichever _ _ _ _ refused) (inr tt))
