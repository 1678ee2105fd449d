use Rattle.std.proofs.Common.{◌≡◌, ◌+◌, ◌-◌, ◌++◌, ℕ, List, take, drop, sym, ap, ◌∙◌, subst, arith}
use Rattle.std.proofs.Math.Seq.{take-add}
use Rattle.std.proofs.lemmas.Grind.{flat_map-append}
use Rattle.json.specs.Print.{escape_byte, escape}
use Rattle.trace_text.proofs.escapes.plain_blocks.Goals as goal

-- a further block that is put as it is
plain_more : (text : List ℕ) (size more : ℕ) → escape (take size text) ≡ take size text → escape (take more (drop size text)) ≡ take more (drop size text) → escape (take (size + more) text) ≡ take (size + more) text
plain_more text size more front block =
    ap escape (take-add size more text) ∙ flat_map-append escape_byte (take size text) (take more (drop size text)) ∙ ap (λ (l : List ℕ). l ++ escape (take more (drop size text))) front
    ∙ ap (λ (l : List ℕ). take size text ++ l) block ∙ sym (take-add size more text)

pub runs-preserved : goal.runs-preserved
runs-preserved c =
    let size : (c.runs.size + 16) - c.runs.size ≡ 16 = omega arith in
    let block = subst (λ (n : ℕ). escape (take n (drop c.runs.size c.args.text.now)) ≡ take n (drop c.runs.size c.args.text.now)) size (c.has_escaped.ensures c.if-has_escaped.false) in
    record {
      within = omega (arith, c.runs-test.true, c.runs.invariant.within);
      plain = plain_more c.args.text.now c.runs.size 16 c.runs.invariant.plain block;
    }
