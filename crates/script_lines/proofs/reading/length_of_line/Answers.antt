use Rattle.std.proofs.Common.{◌≢◌, ◌-◌, All, subst, rules, arith, take-take}
use Rattle.std.proofs.lemmas.List.Elements.{All-take, All-more}
use Rattle.script_lines.proofs.reading.length_of_line.Goals as goal

pub loop-length-preserved : goal.loop-length-preserved
loop-length-preserved c = (search rules, All-more (λ b. b ≢ 10) _ _ 0 (search rules) c.loop-length.invariant.1 (search rules))

pub returns-clause-before : goal.returns-clause-before
returns-clause-before c =
    let n = c.loop-length.length in
    subst (All (λ b. b ≢ 10)) (take-take (n - 1) n c.args.bytes.now (omega arith)) (All-take (λ b. b ≢ 10) (n - 1) _ c.loop-length.invariant.1)
