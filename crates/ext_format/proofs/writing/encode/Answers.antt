use Rattle.std.proofs.Common.{◌≡◌, ◌≤◌, ◌+◌, ℕ, List, Option, length, rules, subst, sym, arith}
use Rattle.trace_terms.specs.Data.{depth}
use Rattle.trace_terms.specs.View.{view}
use Rattle.ext_format.specs.Canonical.{canonical, canonical_form}
use Rattle.ext_format.specs.Room.{LeavesRoom}
use Rattle.ext_format.specs.Spelling.{Spells}
use Rattle.ext_format.proofs.Spelled.{canonical_spells}
use Rattle.ext_format.proofs.writing.encode.Goals as goal

pub returns-clause-ok : goal.returns-clause-ok
returns-clause-ok c = search rules

pub returns-clause-spelled : goal.returns-clause-spelled
returns-clause-spelled c =
    let t = view c.args.term.now in
    let shallow : depth t ≤ 64 = omega arith in
    let size = length (canonical_form t) in
    let left : c.in-Some.unused + size ≡ 65530 = subst (λ (o : Option ℕ). LeavesRoom o 65530 size) c.in-Some.is c.room_after.ensures in
    let short : length (canonical t) ≤ 65531 = omega arith in
    subst (λ (bytes : List ℕ). Spells t bytes) (sym (returns-clause-ok c)) (canonical_spells t c.in_ok-put_form.ensures.fits shallow short)
