use Rattle.std.proofs.Common.{arith, ◌∙◌, ap, ◌≡◌, ◌≢◌, Ok, true, false, inl}
use Rattle.script_lines.proofs.Taken.{read_more, no_break_more, stops_more, read_whole}
use Rattle.script_lines.proofs.reading.read_line.Goals as goal
use Rattle.script_lines.proofs.reading.read_line.Goals.{then-branch-via-then-branch, then-branch-via-else-branch+then-len-gt-LONGEST}

pub returns-in_err-take_part-clause-consumes : goal.returns-in_err-take_part-clause-consumes
returns-in_err-take_part-clause-consumes g c = read_more _ _ _ c.loop-part.text.items _ c.loop-part.invariant.consumes c.take_part.ensures.appends c.take_part.ensures.consumes

pub returns-then-branch-clause-consumes : goal.returns-then-branch-clause-consumes
returns-then-branch-clause-consumes g c = read_more _ _ _ c.loop-part.text.items _ c.loop-part.invariant.consumes c.take_part.ensures.appends c.take_part.ensures.consumes

pub returns-then-branch-clause-line : goal.returns-then-branch-clause-line
returns-then-branch-clause-line g c =
    let part = c.take_part.ensures in
    let begun = c.loop-part.invariant in
    elim c.then-branch.branch [
      | then-branch-via-then-branch w ↦
          let done : c.take_part.result ≡ Ok true = c.in_ok-take_part.was ∙ ap Ok w.if-branch.true in
          read_whole _ _ _ c.loop-part.text.items _ begun.consumes begun.no_break part.appends part.stops (part.done done) (part.end done)
      | then-branch-via-else-branch+then-len-gt-LONGEST w ↦
          record { stops = stops_more c.loop-part.text.items _ begun.no_break part.appends part.stops; ends = inl (omega (arith, w.len.ensures, w.if-len-gt-LONGEST.true)) }
    ]

pub loop-part-preserved : goal.loop-part-preserved
loop-part-preserved g c =
    let part = c.take_part.ensures in
    let begun = c.loop-part.invariant in
    let was : c.take_part.result ≡ Ok c.in_ok-take_part.field-0 = c.in_ok-take_part.was in
    let no : c.in_ok-take_part.field-0 ≡ false = c.if-branch.false in
    let not_done : c.take_part.result ≢ Ok true = λ e. cc in
    record {
      consumes = read_more _ _ _ c.loop-part.text.items _ begun.consumes part.appends part.consumes;
      no_break = no_break_more c.loop-part.text.items _ begun.no_break part.appends (part.goes_on not_done);
      short = omega (arith, c.len.ensures, c.if-len-gt-LONGEST.false);
    }
