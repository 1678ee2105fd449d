use Rattle.std.proofs.Common.{refl, ap, ◌∙◌}
use Rattle.trace_text.specs.Sights.{parts_kind}
use Rattle.std.proofs.lemmas.Result.{err_from_is_err_and}
use Rattle.trace_text.specs.AnyReading.{any_term_at}
use Rattle.trace_text.proofs.PartLemmas.{members_put, tuple_fails}
use Rattle.trace_text.proofs.message.put_message_members.Goals as goal

pub returns-in_err-put_parts : goal.returns-in_err-put_parts
returns-in_err-put_parts c =
    let p = err_from_is_err_and c.from_residual-in_err-put_parts.result c.from_residual-in_err-put_parts.ensures.1 in
    rw (p.1, p.2) (tuple_fails (any_term_at c.args.inner) c.args.count _ c.args.rest.now.now c.in_err-put_parts.field-0.0 c.from.ensures c.in_err-put_parts.ensures)

pub returns : goal.returns
returns c =
    members_put (any_term_at c.args.inner) c.args.rest.now.now _ c.args.count _ c.args.told.now _ c.put_parts.new.told _ _ c.requires c.from.ensures c.in_ok-push.ensures.items refl c.in_ok-put_parts.ensures c.in_ok-push-2.ensures.items refl refl
    (c.parts_kind.ensures ∙ ap parts_kind c.deref.ensures.value)
