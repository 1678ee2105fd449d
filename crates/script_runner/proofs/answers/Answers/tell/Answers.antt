use Rattle.std.proofs.Common.{List, ℕ, subst, ◌∙◌}
use Rattle.std.specs.Io.KnownBytes.{Appends}
use Rattle.script_runner.proofs.Written.{all_at_most}
use Rattle.script_runner.proofs.answers.Answers.tell.Goals as goal

pub returns-then-self-clause-cut : goal.returns-then-self-clause-cut
returns-then-self-clause-cut g c =
    let old = g.W.Write.contents c.args.self.now.writer.now in
    let mid = g.W.Write.contents c.put_all.new.out in
    all_at_most c.finish.result old mid _ _ (subst (λ (l : List ℕ). Appends old mid l) (c.as_bytes.ensures.value ∙ c.as_str.ensures.value ∙ c.in-Ok.ensures) c.in-Ok-put_all.ensures) c.finish.ensures.bytes
