use Rattle.std.proofs.Common.{refl, rules}
use Rattle.std.proofs.lemmas.Result.{err_from_is_err_and}
use Rattle.script_runner.specs.Read.{IsNoLine}
use Rattle.script_runner.proofs.Through.{next_line, no_more}
use Rattle.script_runner.proofs.reading.next_line.Goals as goal

pub returns-in_err-line-clause-next : goal.returns-in_err-line-clause-next
returns-in_err-line-clause-next g c =
    let e = err_from_is_err_and c.from_residual.result c.from_residual.ensures.1 in
    rw (e.1, e.2) (IsNoLine.not_given c.in_err-line.field-0.0 c.in_err-line.ensures.next)

pub returns-in_default-clause-next : goal.returns-in_default-clause-next
returns-in_default-clause-next g c = no_more c.args.script.now.is_of_desk _ _ _ (search rules) c.in_ok-line.ensures.next

pub returns-then-is_beyond-clause-next : goal.returns-then-is_beyond-clause-next
returns-then-is_beyond-clause-next g c =
    let next = next_line c.args.script.now.is_of_desk c.args.script.now.is_of_desk _ _ _ _ refl c.in-Some.is c.in_ok-line.ensures.next in
    rw (c.from.ensures, c.bad_command.ensures) (IsNoLine.no_file _ next (c.is_beyond.ensures.beyond c.if-is_beyond.true))

pub returns-clause-next : goal.returns-clause-next
returns-clause-next g c =
    let next = next_line c.args.script.now.is_of_desk c.args.script.now.is_of_desk _ _ _ _ refl c.in-Some.is c.in_ok-line.ensures.next in
    (next, c.is_beyond.ensures.within c.if-is_beyond.false)
