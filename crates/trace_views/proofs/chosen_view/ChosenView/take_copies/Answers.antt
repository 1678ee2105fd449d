use Rattle.std.proofs.Common.{◌≡◌, ◌+◌, ◌∙◌, ℕ, inl, refl, subst, sym, arith}
use Rattle.std.proofs.lemmas.Result.{err_from_is_err_and}
use Rattle.entry_codec.specs.Entries.{Entry, Drop, spelling}
use Rattle.trace_client.proofs.Greatest.{copies, one_more}
use Rattle.trace_views.specs.Feeding.{TookText}
use Rattle.trace_views.proofs.FeedLemmas.{took_nothing, took_one, took_more}
use Rattle.trace_views.proofs.chosen_view.ChosenView.take_copies.Goals as goal

pub loop-init : goal.loop-init
loop-init g c = (omega arith, took_nothing _ _ refl, refl)

pub loop-preserved : goal.loop-preserved
loop-preserved g c =
    let inv = c.loop.invariant in
    let e : Entry = Drop 4294967295 in
    let n = c.loop.counter in (
      omega arith,
      took_more (λ text. text ≡ copies e n) (λ text. text ≡ spelling e) (λ text. text ≡ copies e (n + 1)) _ _ _ (λ text more is own. rw (is, own) (sym (one_more e n))) inv.1 (took_one (λ text. text ≡ spelling e) _ _ e refl c.in_ok-take.ensures.taken),
      inv.2,
    )

pub returns-in_err-take-clause-takes : goal.returns-in_err-take-clause-takes
returns-in_err-take-clause-takes g c =
    let inv = c.loop.invariant in
    let p = err_from_is_err_and c.from_residual.result c.from_residual.ensures.1 in
    rw p.1 (record { entries = inv.1.entries; all = c.in_err-take.ensures.stays ∙ inv.1.all; why = inl (rw c.in_err-take.ensures.fails refl) })

pub returns-in_err-take-clause-choice : goal.returns-in_err-take-clause-choice
returns-in_err-take-clause-choice g c = c.loop.invariant.2

pub returns-clause-takes : goal.returns-clause-takes
returns-clause-takes g c =
    let inv = c.loop.invariant in
    subst (λ (n : ℕ). TookText (λ text. text ≡ copies (Drop 4294967295) n) (g.V.View.seen c.args.self.now.view) (g.V.View.seen c.loop.self.view)) (omega (arith, inv.0, c.loop-test.false)) inv.1
