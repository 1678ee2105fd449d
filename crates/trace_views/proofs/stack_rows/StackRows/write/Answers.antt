use Rattle.std.proofs.Common.{◌∙◌, ◌++◌, ◌∷◌, [], ap, subst, rules}
use Rattle.std.specs.Fmt.{decimal}
use Rattle.std.specs.Io.KnownBytes.{Appends}
use Rattle.std.specs.Map.Iter.{deref_pair}
use Rattle.std.proofs.KnownBytes.{Appends-nil}
use Rattle.std.proofs.lemmas.Map.Iter.{iter_end}
use Rattle.trace_views.specs.Stacks.{lines_of}
use Rattle.trace_views.proofs.StackLemmas.{line-step}
use Rattle.trace_views.proofs.stack_rows.StackRows.write.Goals as goal

pub loop-text-init : goal.loop-text-init
loop-text-init g c = Appends-nil (g.W.Write.contents c.args.out.now)

pub loop-text-preserved : goal.loop-text-preserved
loop-text-preserved g c =
    let contents = g.W.Write.contents in
    line-step c.args.is_timed c.loop-text.yielded (c.in-Some.text, c.in-Some.row) (contents c.args.out.now) (contents c.loop-text.out) (contents c.write_all.new.self) (contents c.writeln.new.self) _ _
    c.loop-text.invariant c.in_ok-write_all.ensures.bytes c.in_ok-writeln.ensures.bytes
    (ap (λ l. l ++ (32 ∷ (decimal c.number-number.result ++ 10 ∷ []))) c.deref.ensures.value ∙ ap (λ n. c.in-Some.text.now.items ++ (32 ∷ (decimal n ++ 10 ∷ []))) c.number-number.ensures)

pub returns-clause-lines : goal.returns-clause-lines
returns-clause-lines g c =
    let all = iter_end deref_pair c.args.self.now.rows.entries c.loop-text.yielded c.into_iter-text-iterator.result c.loop-text.text-iterator c.next.new.self c.next.result (search rules) c.loop-text.yielded_by c.in-None.is c.next.ensures.steps in
    subst (λ entries. Appends (g.W.Write.contents c.args.out.now) (g.W.Write.contents c.loop-text.out) (lines_of c.args.is_timed entries)) all.0 c.loop-text.invariant
