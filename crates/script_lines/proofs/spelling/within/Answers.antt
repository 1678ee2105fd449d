use Rattle.std.proofs.Common.{arith, ◌≡◌}
use Rattle.script_lines.proofs.Numbers.{only_number}
use Rattle.script_lines.proofs.spelling.within.Goals as goal
use Rattle.script_lines.proofs.spelling.within.Goals.{then-found-from-via-then-found-from, then-found-from-via-else-found-from+then-from-found}

pub returns-then-found-from : goal.returns-then-found-from
returns-then-found-from c x h =
    let e : c.in_ok-found.found ≡ x = only_number c.args.word.now c.in_ok-found.found x c.in_ok-found.ensures h.number in
    elim c.then-found-from.branch [
      | then-found-from-via-then-found-from w ↦ omega (arith, h.least_kept, e)
      | then-found-from-via-else-found-from+then-from-found w ↦ omega (arith, h.most_kept, e)
    ]
