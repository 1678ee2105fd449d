use Rattle.std.proofs.Common.{rules, ◌≡◌, ⊎_elim, ap, subst, arith}
use Rattle.std.proofs.lemmas.Bool.{cases_lt}
use Rattle.segment.specs.Seen.{header_seen, spec_seen}
use Rattle.recovery.specs.Stores.{file_for}
use Rattle.foreign_files.specs.Disagreeing.{HasNone, oldest_kept}
use Rattle.foreign_files.proofs.Agreeing.{keeps_all}
use Rattle.foreign_files.proofs.disagreeing.missing.Goals.{else-file-count-via-then-file-count+else-not-has_generation, else-file-count-via-else-file-count}
use Rattle.foreign_files.proofs.disagreeing.missing.Goals as goal

pub returns-then-not-has_generation-clause-told : goal.returns-then-not-has_generation-clause-told
returns-then-not-has_generation-clause-told c image are alike =
    let newest = c.in_ok-spec.field-0 in
    let gone : HasNone image c.loop-older.older = rw c.if-not-has_generation.true at c.has_generation.ensures image are in
    let far = c.loop-older-test.true in
    let from = c.loop-older.invariant.from in
    let same : c.saturating_sub-oldest.result ≡ oldest_kept newest.header.generation c.in_ok-count.field-0 = omega (arith, c.saturating_sub-oldest.ensures, c.saturating_sub.ensures, c.from-kept.ensures, far, from) in
    record {
      at = newest.file;
      newest = header_seen newest.header;
      has = c.in_ok-spec.ensures.is image are;
      none_later = c.in_ok-spec.ensures.none_later image are;
      count = c.in_ok-count.field-0;
      keeps = search rules;
      generation = c.loop-older.older;
      kept = omega (arith, same, from);
      older = c.loop-older-test.true;
      gone = gone;
      place = search rules;
      oldest = search rules;
    }

pub loop-older-preserved : goal.loop-older-preserved
loop-older-preserved c = record {
  from = omega (arith, c.loop-older.invariant.from);
  there = λ k from below within image are none. ⊎_elim
      (λ before. c.loop-older.invariant.there k from before within image are none)
      (λ at.
      let same : k ≡ c.loop-older.older = omega (arith, at, below) in
      let gone : HasNone image c.loop-older.older = subst (HasNone image) same none in
      elim c.else-file-count.branch [
        | else-file-count-via-then-file-count+else-not-has_generation w ↦ (rw w.if-not-has_generation.false at w.has_generation.ensures image are) gone
        | else-file-count-via-else-file-count w ↦ let here = c.file_in_turn-file.ensures in let far = w.if-file-count.false in absurd (omega (arith, ap (file_for (spec_seen c.in_ok-spec.field-0.header.spec)) same, here, far, within))
      ])
      (cases_lt k c.loop-older.older);
}

pub returns-clause-told : goal.returns-clause-told
returns-clause-told c = λ image are alike.
    let newest = c.in_ok-spec.field-0 in
    let kept = c.in_ok-count.field-0 in
    keeps_all image newest kept c.saturating_sub-oldest.result c.args.count (c.in_ok-spec.ensures.is image are) (c.in_ok-spec.ensures.none_later image are) alike (search rules)
    (omega (arith, c.saturating_sub-oldest.ensures, c.saturating_sub.ensures, c.from-kept.ensures))
    (λ k from below within none. c.loop-older.invariant.there k from (omega (arith, below, c.loop-older-test.false)) within image are none)
