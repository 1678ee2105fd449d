use Rattle.std.proofs.Common.{Bool, cond, codes, ap, sym, ◌∙◌, refl}
use Rattle.std.proofs.lemmas.Bool.{ne_eqb}
use Rattle.std.proofs.lemmas.Option.{slice_get_read, slice_get_past}
use Rattle.trace_text.specs.KindWords.{word_or, shown_kinds}
use Rattle.trace_text.proofs.kinds.kind_at.Goals as goal

pub returns-in-Some : goal.returns-in-Some
returns-in-Some c =
    let found = c.in-Some.ensures.lookup in
    c.word_of.ensures ∙ ap (word_or c.args.place) (sym (slice_get_read shown_kinds 29 c.args.place c.in-Some.kind.now refl found.3.0 found.1))

pub returns-else-place-eq29 : goal.returns-else-place-eq29
returns-else-place-eq29 c =
    let past = c.in-None.ensures.lookup in
    c.word_of-else-place-eq29.ensures
    ∙ sym (ap (word_or c.args.place) (slice_get_past shown_kinds c.args.place past.3) ∙ ap (λ (b : Bool). cond b (codes "opaque") (codes "other")) (ne_eqb c.args.place 29 c.if-place-eq29.false))
