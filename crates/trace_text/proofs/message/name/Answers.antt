use Rattle.std.proofs.Common.{true, false, refl, sym, ◌∙◌}
use Rattle.trace_text.specs.Facts.{tells_target}
use Rattle.trace_text.proofs.FactTelling.{seen_as}
use Rattle.trace_text.proofs.ReceiverLemmas.{name_by, name_as}
use Rattle.trace_text.proofs.message.name.Goals as goal

pub returns-then-tells_registered : goal.returns-then-tells_registered
returns-then-tells_registered c = λ t k s f.
    name_as (λ own. own.now) c.registered.result t _ (name_by t c.args.kind true (tells_target c.args.kind) k (sym c.tells_registered.ensures ∙ c.if-tells_registered.true) refl)
    (c.registered.ensures t (seen_as t _ _ _ _ c.deref.ensures.value c.deref-then-tells_registered.ensures.value s))

pub returns-then-tells_target : goal.returns-then-tells_target
returns-then-tells_target c = λ t k s f.
    name_as (λ own. own.now) c.target.result t _ (name_by t c.args.kind false true k (sym c.tells_registered.ensures ∙ c.if-tells_registered.false) (sym c.tells_target.ensures ∙ c.if-tells_target.true)) (c.target.ensures t s f)

pub returns : goal.returns
returns c = λ t k s f. name_by t c.args.kind false false k (sym c.tells_registered.ensures ∙ c.if-tells_registered.false) (sym c.tells_target.ensures ∙ c.if-tells_target.false)
