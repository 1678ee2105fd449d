use Rattle.std.proofs.Common.{Ok, ◌≤◌, ap, sym, subst, refl, ◌∙◌}
use Rattle.std.proofs.lemmas.Result.{err_from_is_err_and}
use Rattle.commands.specs.Following.{Stand, Sees, Looks, none, more}
use Rattle.commands.proofs.Followed.{sealed_so, failed_so, untold_so}
use Rattle.commands.proofs.following.follow.Goals as goal

pub loop-init : goal.loop-init
loop-init g c = (none, refl)

pub returns-in_err-seen-clause-followed : goal.returns-in_err-seen-clause-followed
returns-in_err-seen-clause-followed g c =
    let p = err_from_is_err_and c.from_residual.result c.from_residual.ensures.1 in
    let call = c.look_once in
    failed_so c.loop.refused _ _ call.new.files.store call.new.follower _ c.in_err-seen.field-0.0 p.0 c.from_residual.result c.loop.invariant.0 call.ensures.anew c.in_err-seen.ensures.gone
    c.in_err-seen.ensures.why_not c.in_err-seen.ensures.stopped p.1 p.2

pub returns-then-is_sealed-clause-followed : goal.returns-then-is_sealed-clause-followed
returns-then-is_sealed-clause-followed g c =
    let call = c.look_once in
    let told = g.W.Write.contents call.new.out in
    let last : Stand = record { files = c.loop.files.store; follower = c.loop.follower; holds = g.W.Write.contents c.loop.watched.writer.now } in
    let look = subst (Sees last (record { files = call.new.files.store; follower = call.new.follower; holds = told })) (c.is_sealed.ensures.end c.if-is_sealed.true) c.in_ok-seen.ensures.seen in
    sealed_so c.loop.refused _ last call.new.files.store call.new.follower told _ c.end.result c.loop.invariant.0 look c.end.ensures.ok c.end.ensures.err c.end.ensures.fault

pub refusals-refused-requires : goal.refusals-refused-requires
refusals-refused-requires g c = λ is. c.in_ok-seen.ensures.few (ap Ok is)

pub returns-in_err-write_out-clause-followed : goal.returns-in_err-write_out-clause-followed
returns-in_err-write_out-clause-followed g c =
    let call = c.look_once in
    let told = g.W.Write.contents call.new.out in
    let now = g.W.Write.contents c.write_out.new.out in
    let last : Stand = record { files = c.loop.files.store; follower = c.loop.follower; holds = g.W.Write.contents c.loop.watched.writer.now } in
    let after : Stand = record { files = call.new.files.store; follower = call.new.follower; holds = told } in
    let count = c.refusals-refused.ensures.count in
    let few = subst (λ n. n ≤ 31) count c.refusals-refused.ensures.few in
    let so_far = more c.loop.refused last after c.in_ok-seen.seen now c.loop.invariant.0 c.in_ok-seen.ensures.seen (c.is_sealed.ensures.other c.if-is_sealed.false) few c.write_out.ensures.kept in
    let p = err_from_is_err_and c.from_residual-in_err-write_out.result c.from_residual-in_err-write_out.ensures.1 in
    untold_so _ _ (record after { holds = now }) p.0 c.from_residual-in_err-write_out.result so_far p.1 (p.2 ∙ c.in_err-write_out.ensures.err)

pub loop-preserved : goal.loop-preserved
loop-preserved g c =
    let call = c.look_once in
    let told = g.W.Write.contents call.new.out in
    let now = g.W.Write.contents c.write_out.new.out in
    let last : Stand = record { files = c.loop.files.store; follower = c.loop.follower; holds = g.W.Write.contents c.loop.watched.writer.now } in
    let after : Stand = record { files = call.new.files.store; follower = call.new.follower; holds = told } in
    let count = c.refusals-refused.ensures.count in
    let few = subst (λ n. n ≤ 31) count c.refusals-refused.ensures.few in
    let first : Stand = record { files = c.args.files.now.store; follower = c.args.follower.now; holds = g.W.Write.contents c.args.watched.now.writer.now } in (
      subst (λ n. Looks first n (record after { holds = now })) (sym count)
          (more c.loop.refused last after c.in_ok-seen.seen now c.loop.invariant.0 c.in_ok-seen.ensures.seen (c.is_sealed.ensures.other c.if-is_sealed.false) few c.write_out.ensures.kept),
      call.ensures.place ∙ c.loop.invariant.1,
    )
