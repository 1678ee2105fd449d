use Rattle.std.proofs.Common.{◌++◌, ◌∙◌, ap, sym}
use Rattle.std.proofs.Math.Seq.{take-length}
use Rattle.shown_listings.specs.declared.look.Look.{Look}
use Rattle.shown_listings.specs.declared.look.Rule.{Rule}
use Rattle.shown_listings.specs.Rows.{given_lines}
use Rattle.shown_listings.proofs.RowLemmas.{contents-grown}
use Rattle.shown_listings.proofs.laid_out.LaidOut.take.Goals as goal

abbrev rule_of : Look → Rule
rule_of look = look.rule

pub returns-in_ok-end_line-in-Some-clause-bytes : goal.returns-in_ok-end_line-in-Some-clause-bytes
returns-in_ok-end_line-in-Some-clause-bytes g c =
    let was = c.args.self.now in
    let given = given_lines was.lines.items was.line.items in
    let made = c.in_ok-end_line-in-Some.ensures in
    contents-grown _ _ was.written.start c.end_line.new.self.written.start given (given_lines c.end_line.new.self.lines.items c.end_line.new.self.line.items) _ (ap rule_of made.look) made.start
    (made.ok ∙ ap (λ l. given ++ l) (sym c.in-Some.ensures.2))

pub returns-in_ok-go_on-in-None-clause-bytes : goal.returns-in_ok-go_on-in-None-clause-bytes
returns-in_ok-go_on-in-None-clause-bytes g c =
    let was = c.args.self.now in
    let given = given_lines was.lines.items was.line.items in
    let made = c.in_ok-go_on-in-None.ensures in
    contents-grown _ _ was.written.start c.go_on.new.self.written.start given (given_lines c.go_on.new.self.lines.items c.go_on.new.self.line.items) _ (ap rule_of made.look) made.start
    (made.ok ∙ ap (λ l. given ++ l) (sym (take-length c.args.bytes.now)))
