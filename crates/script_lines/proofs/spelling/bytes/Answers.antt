use Rattle.std.proofs.Common.{◌≢◌, codes, Vec, Global, ℕ, List, subst, length, ◌%◌}
use Rattle.std.proofs.lemmas.Result.{IfOk-weaker}
use Rattle.std.specs.Result.{IfOk}
use Rattle.script_lines.specs.Spellings.{IsFoundAs, IsHex}
use Rattle.script_lines.proofs.Numbers.{odd, blank, bytes_found, not_dash, no_length, some_length}
use Rattle.script_lines.proofs.spelling.bytes.Goals as goal
use Rattle.script_lines.proofs.spelling.bytes.Goals.{then-is_empty-via-then-is_empty, then-is_empty-via-else-is_empty+then-digits-ne0}

pub returns-then-is_empty : goal.returns-then-is_empty
returns-then-is_empty c bytes h =
    let other : c.args.word.now ≢ codes "-" = not_dash c.args.word.now _ c.eq.ensures c.if-eq.false in
    let same = c.as_bytes-digits.ensures.value in
    elim c.then-is_empty.branch [
      | then-is_empty-via-then-is_empty w ↦ blank c.args.word.now bytes other (no_length _ _ same w.if-is_empty.ensures) h
      | then-is_empty-via-else-is_empty+then-digits-ne0 w ↦ odd c.args.word.now bytes other (subst (λ (ds : List ℕ). length ds % 2 ≢ 0) same w.if-digits-ne0.true) h
    ]

pub returns : goal.returns
returns c =
    let other : c.args.word.now ≢ codes "-" = not_dash c.args.word.now _ c.eq.ensures c.if-eq.false in
    let same = c.as_bytes-digits.ensures.value in
    IfOk-weaker c.pairs.result _ _ (λ o. bytes_found (λ (v : Vec ℕ Global). v.items) c.args.word.now o other (some_length _ _ same c.if-is_empty.ensures))
    (subst (λ (ds : List ℕ). IfOk c.pairs.result (IsFoundAs (λ (v : Vec ℕ Global). v.items) (IsHex ds))) same c.pairs.ensures)
