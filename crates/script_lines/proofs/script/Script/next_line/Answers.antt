use Rattle.std.proofs.Common.{refl, ◌∙◌, ◌≡◌, subst, Bool, Option, Err, false, rules}
use Rattle.std.specs.Option.{is_some}
use Rattle.std.proofs.lemmas.Result.{err_from_is_err_and}
use Rattle.script_lines.specs.Reading.{TellsLine}
use Rattle.script_lines.specs.declared.line.Line.{Line}
use Rattle.script_lines.proofs.Taken.{advanced, no_line, passed_none, passed_more, stopped_line, stopped_read, stopped_after, takes_none, takes_both, told_behind, told_of_line}
use Rattle.script_lines.proofs.script.Script.next_line.Goals as goal

pub loop-line-init : goal.loop-line-init
loop-line-init g c = record { desk = refl; name = refl; passed = passed_none _; room = takes_none _ _ }

pub returns-in_err-advance-clause-next : goal.returns-in_err-advance-clause-next
returns-in_err-advance-clause-next g c =
    let told = c.in_err-advance.ensures.advances in
    let p = err_from_is_err_and c.from_residual.result c.from_residual.ensures.1 in
    rw (p.1, p.2) (stopped_read c.args.self.now.is_of_desk _ _ _ c.in_err-advance.field-0.0 c.loop-line.invariant.passed told.0 told.1)

pub returns-in_err-found-clause-next : goal.returns-in_err-found-clause-next
returns-in_err-found-clause-next g c =
    let desk = c.advance.ensures.same ∙ c.loop-line.invariant.desk in
    let taken = advanced _ _ c.advance.new.self.text.now.items _ (search rules) c.in_ok-advance.ensures.advances in
    let p = err_from_is_err_and c.from_residual-in_err-found.result c.from_residual-in_err-found.ensures.1 in
    rw (p.1, p.2)
    (stopped_line c.args.self.now.is_of_desk _ _ _ c.advance.new.self.text.now.items c.in_err-found.field-0.0 c.loop-line.invariant.passed taken
    (subst (λ (of_desk : Bool). TellsLine of_desk c.advance.new.self.number c.advance.new.self.text.now.items (Err c.in_err-found.field-0.0)) desk c.in_err-found.ensures.tells))

pub loop-line-preserved : goal.loop-line-preserved
loop-line-preserved g c = let none : false ≡ is_some c.in_ok-found.found = cc in record {
  desk = c.advance.ensures.same ∙ c.loop-line.invariant.desk;
  name = c.advance.ensures.name ∙ c.loop-line.invariant.name;
  passed = passed_more _ _ _ c.advance.new.self.text.now.items c.loop-line.invariant.passed (advanced _ _ c.advance.new.self.text.now.items _ (search rules) c.in_ok-advance.ensures.advances) (no_line _ c.advance.new.self.number _ c.in_ok-found.found none c.in_ok-found.ensures.tells);
  room = takes_both _ _ _ _ _ _ c.loop-line.invariant.room c.in_ok-advance.ensures.room;
}

pub returns-clause-next : goal.returns-clause-next
returns-clause-next g c = stopped_after c.args.self.now.is_of_desk _ _ c.loop-line.invariant.passed

pub returns-in_err-advance-clause-room : goal.returns-in_err-advance-clause-room
returns-in_err-advance-clause-room g c =
    let p = err_from_is_err_and c.from_residual.result c.from_residual.ensures.1 in
    rw (p.1, p.2) (told_behind (Option Line) _ _ _ _ _ _ c.in_err-advance.field-0.0 c.loop-line.invariant.room c.in_err-advance.ensures.room)

pub returns-in_err-found-clause-room : goal.returns-in_err-found-clause-room
returns-in_err-found-clause-room g c =
    let p = err_from_is_err_and c.from_residual-in_err-found.result c.from_residual-in_err-found.ensures.1 in
    rw (p.1, p.2) (told_of_line (Option Line) _ _ _ _ _ _ _ _ _ c.in_err-found.field-0.0 c.loop-line.invariant.room c.in_ok-advance.ensures.room c.in_err-found.ensures.tells)

pub returns-then-not-branch-clause-room : goal.returns-then-not-branch-clause-room
returns-then-not-branch-clause-room g c = takes_both _ _ _ _ _ _ c.loop-line.invariant.room c.in_ok-advance.ensures.room

pub returns-then-is_some-clause-room : goal.returns-then-is_some-clause-room
returns-then-is_some-clause-room g c = takes_both _ _ _ _ _ _ c.loop-line.invariant.room c.in_ok-advance.ensures.room
