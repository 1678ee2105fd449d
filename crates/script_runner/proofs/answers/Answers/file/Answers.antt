use Rattle.std.proofs.Common.{List, ℕ, ◌∙◌, subst}
use Rattle.std.proofs.KnownBytes.{Appends-trans}
use Rattle.std.specs.Io.KnownBytes.{Appends}
use Rattle.trace_client.specs.Output.{AppendsPart}
use Rattle.trace_client.proofs.WriterSteps.{part_behind, part_longer}
use Rattle.script_runner.specs.Texts.{gate_text, state_head}
use Rattle.script_runner.proofs.answers.Answers.file.Goals as goal

pub returns-in_default-put_all-clause-text : goal.returns-in_default-put_all-clause-text
returns-in_default-put_all-clause-text g c =
    let old = g.W.Write.contents c.args.self.now.writer.now in
    let new = g.W.Write.contents c.put_all.new.out in
    part_longer old new (state_head c.args.file c.args.length) (gate_text c.args.gate)
    (subst (λ (l : List ℕ). AppendsPart old new l) (c.as_bytes.ensures.value ∙ c.as_str.ensures.value ∙ c.in-Ok.ensures) c.in_default-put_all.ensures)

pub returns-in_default-put_all-2-clause-text : goal.returns-in_default-put_all-2-clause-text
returns-in_default-put_all-2-clause-text g c =
    let old = g.W.Write.contents c.args.self.now.writer.now in
    let mid = g.W.Write.contents c.put_all.new.out in
    let new = g.W.Write.contents c.put_all-2.new.out in
    part_behind old mid new (state_head c.args.file c.args.length) (gate_text c.args.gate)
    (subst (λ (l : List ℕ). Appends old mid l) (c.as_bytes.ensures.value ∙ c.as_str.ensures.value ∙ c.in-Ok.ensures) c.in-Ok-put_all.ensures)
    (subst (λ (l : List ℕ). AppendsPart mid new l) c.last_word.ensures c.in_default-put_all-2.ensures)

pub returns-clause-text : goal.returns-clause-text
returns-clause-text g c =
    let old = g.W.Write.contents c.args.self.now.writer.now in
    let mid = g.W.Write.contents c.put_all.new.out in
    let new = g.W.Write.contents c.put_all-2.new.out in
    Appends-trans old mid new (state_head c.args.file c.args.length) (gate_text c.args.gate)
    (subst (λ (l : List ℕ). Appends old mid l) (c.as_bytes.ensures.value ∙ c.as_str.ensures.value ∙ c.in-Ok.ensures) c.in-Ok-put_all.ensures)
    (subst (λ (l : List ℕ). Appends mid new l) c.last_word.ensures c.in-Ok-put_all-2.ensures)
