use Rattle.std.proofs.Common.{Err, inr, subst}
use Rattle.std.proofs.KnownBytes.{Keeps-refl}
use Rattle.std.proofs.lemmas.Result.{err_from_is_err_and}
use Rattle.trace_text.specs.Chooses.{asks_where}
use Rattle.trace_lookup.specs.declared.place.Place.{Place}
use Rattle.trace_views.specs.declared.top.Top.{Top}
use Rattle.commands.specs.Viewing.{TellsStop, not_shown}
use Rattle.commands.proofs.Viewed.{all_seen, reads_on, shown_so, stopped, table_so, tells_on}
use Rattle.commands.proofs.viewing.top.Goals as goal

pub returns-in_err-top-clause-ended : goal.returns-in_err-top-clause-ended
returns-in_err-top-clause-ended g c =
    let p = err_from_is_err_and c.from_residual.result c.from_residual.ensures.1 in
    rw (p.1, p.2) (tells_on _ _ _ c.in_err-top.ensures.viewed (λ why. not_shown _ why (inr (Keeps-refl _))))

pub returns-in-Ok-clause-ended : goal.returns-in-Ok-clause-ended
returns-in-Ok-clause-ended g c =
    let top = c.in_ok-top.top in
    let entries = top.taken.entries in
    let out = c.write_out.ensures in
    reads_on _ _ c.write_out.result c.in_ok-top.ensures.viewed (λ viewed.
    shown_so _ _ _ (asks_where c.args.choice) _ _ _ entries c.in-Ok.written c.write_out.result (table_so c.args.ranking c.args.is_json _ _ _ entries top.tallies c.in-Ok.written c.in-Ok.ensures.counted c.in-Ok.ensures.told out.stays) out.well out.failed (all_seen _ _ _ entries c.new.ensures.seen viewed.0))

pub returns-clause-ended : goal.returns-clause-ended
returns-clause-ended g c =
    let told = subst (λ (place : Place). TellsStop place.base.now c.in-Err.fault c.stopped.result) c.in_ok-top.ensures.place c.stopped.ensures.told in
    let refused = stopped (λ (top : Top). top.fault) _ _ _ c.in_ok-top.top c.in-Err.fault c.stopped.result c.in-Err.ensures.refused told in
    reads_on {T = Unit} _ _ (Err c.stopped.result) c.in_ok-top.ensures.viewed (λ viewed. not_shown _ refused (inr c.in-Err.ensures.nothing))
