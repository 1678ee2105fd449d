use Rattle.std.proofs.Common.{subst, sym}
use Rattle.trace_store.specs.Disk.{file_of}
use Rattle.foreign_files.specs.Foreign.{IsForeign}
use Rattle.foreign_files.specs.Standing.{IsSort}
use Rattle.foreign_files.specs.declared.sort.Sort.{Sort}
use Rattle.foreign_files.specs.declared.sort.Sort.TheVariants as sorts
use Rattle.foreign_files.proofs.Clears.{leaves_prepared}
use Rattle.foreign_files.proofs.clearing.clear_file.Goals as goal

pub returns-in_err-prepare-clause-any_moment : goal.returns-in_err-prepare-clause-any_moment
returns-in_err-prepare-clause-any_moment g c h =
    let st = g.S.Store in
    let m = c.prepare.ensures.device.was_honest h in
    let only = c.in_ok-sort_at.ensures.device.only_reads in
    let tells : IsSort (sorts.Foreign c.in-Foreign.is_stream) (file_of (st.reads c.args.store.now) c.args.file) =
    subst (λ (s : Sort). IsSort s (file_of (st.reads c.args.store.now) c.args.file)) c.in-Foreign.is (c.in_ok-sort_at.ensures.tells m) in
    leaves_prepared st.clock_of st.moments st.images c.args.store.now c.sort_at.new.store c.prepare.new.store c.args.file (only.each_moment m) (only.same_images m).no_more
    (λ d is. subst IsForeign (sym (c.requires.settled (only.was_honest m) d ((only.same_images m).no_more d is))) tells.0)
    (c.prepare.ensures.any_moment h)

pub returns-in_ok-prepare-clause-any_moment : goal.returns-in_ok-prepare-clause-any_moment
returns-in_ok-prepare-clause-any_moment g c h =
    let st = g.S.Store in
    let m = c.prepare.ensures.device.was_honest h in
    let only = c.in_ok-sort_at.ensures.device.only_reads in
    let tells : IsSort (sorts.Foreign c.in-Foreign.is_stream) (file_of (st.reads c.args.store.now) c.args.file) =
    subst (λ (s : Sort). IsSort s (file_of (st.reads c.args.store.now) c.args.file)) c.in-Foreign.is (c.in_ok-sort_at.ensures.tells m) in
    leaves_prepared st.clock_of st.moments st.images c.args.store.now c.sort_at.new.store c.prepare.new.store c.args.file (only.each_moment m) (only.same_images m).no_more
    (λ d is. subst IsForeign (sym (c.requires.settled (only.was_honest m) d ((only.same_images m).no_more d is))) tells.0)
    (c.prepare.ensures.any_moment h)
