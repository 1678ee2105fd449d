use Rattle.std.proofs.Common.{◌≡◌, [], inl, inr, refl, subst}
use Rattle.std.proofs.KnownBytes.{Keeps-refl}
use Rattle.std.proofs.lemmas.Result.{err_from_is_err_and}
use Rattle.stores.specs.FolderStore.{reads_of}
use Rattle.trace_views.specs.Taking.{in_two_looks}
use Rattle.trace_text.specs.Chooses.{asks_where}
use Rattle.commands.specs.Viewing.{HasSeen, not_shown}
use Rattle.commands.proofs.Viewed.{all_seen, found_again, looks_seen, of_another, reads_again, reads_once, reads_twice, shown_so, stacks_so}
use Rattle.commands.proofs.viewing.fold.Goals as goal

pub returns-in_err-seen-clause-ended : goal.returns-in_err-seen-clause-ended
returns-in_err-seen-clause-ended g c =
    let p = err_from_is_err_and c.from_residual.result c.from_residual.ensures.1 in
    rw (p.1, p.2) (reads_once _ _ c.in_err-seen.ensures.viewed (λ why. not_shown _ (of_another _ _ _ _ (λ full. inl full) why) (inr (Keeps-refl _))))

pub returns-in_err-folded-clause-ended : goal.returns-in_err-folded-clause-ended
returns-in_err-folded-clause-ended g c =
    let p = err_from_is_err_and c.from_residual-in_err-folded.result c.from_residual-in_err-folded.ensures.1 in
    rw (p.1, p.2) (reads_again _ _ _ c.in_ok-seen.ensures.viewed c.in_err-folded.ensures.viewed
    (λ same first why. not_shown _ (of_another _ _ _ _ (λ full. inr full) (found_again c.args.files.now.place c.see_ends.new.files.place c.look_at.new.files.store (reads_of c.args.files.now.store) (reads_of c.see_ends.new.files.store) c.in_err-folded.field-0.0 c.in_ok-seen.ensures.place same why)) (inr (Keeps-refl _))))

pub returns-clause-ended : goal.returns-clause-ended
returns-clause-ended g c =
    let asks = asks_where c.args.choice in
    let image = reads_of c.args.files.now.store in
    let seen = c.in_ok-seen.seen.taken.entries in
    let folded = c.in_ok-folded.folded in
    let before = folded.before.entries in
    let entries = folded.taken.entries in
    let lines = c.write.ensures in
    let out = c.write_out.ensures in
    let start : in_two_looks c.new.result.before.entries c.new.result.taken.entries ≡ in_two_looks seen [] = rw (c.new.ensures.before, c.new.ensures.taken) refl in
    reads_twice _ _ _ c.write_out.result c.in_ok-seen.ensures.viewed c.in_ok-folded.ensures.viewed (λ same first second.
    let both = looks_seen asks image (reads_of c.see_ends.new.files.store) seen before entries same (all_seen asks image [] seen refl first.0) (subst (λ l. HasSeen asks (reads_of c.see_ends.new.files.store) l (in_two_looks before entries)) start second.0) in
    shown_so _ _ _ asks _ _ image entries c.write.result c.write_out.result (stacks_so asks image _ _ _ before entries folded.stacks c.write.result both.0 lines.calls lines.ordered lines.lines out.stays) out.well out.failed both.1)
