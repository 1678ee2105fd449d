use Rattle.std.proofs.Common.{◌≡◌, ◌≤◌, ℕ, List, get_or, sym, ◌∙◌, arith, rules}
use Rattle.segment.specs.Segments.{IsOpen}
use Rattle.segment.specs.Seen.{header_seen}
use Rattle.segment.proofs.Heading.{front_damaged, front_heads}
use Rattle.foreign_files.specs.Standing.{IsHead}
use Rattle.foreign_files.proofs.Streams.{head_is_first}
use Rattle.foreign_files.proofs.front.front_of.Goals as goal

-- a file is open that begins so
opens : (text head : List ℕ) (n : ℕ) → IsHead text n head → 37 ≤ n → get_or head 0 0 ≡ 1 → IsOpen text
opens text head n is long first = (omega (arith, is.long, long), sym (is.same 0 (omega arith)) ∙ first)

pub returns-in-Some : goal.returns-in-Some
returns-in-Some c = λ text is.
    let head = c.args.head.now in
    let long = c.if-size-lt-LEAST_LENGTH.false in
    let found = c.in-Some.ensures.some in (
      front_heads text head (header_seen c.in-Some.head.header) c.args.size (opens text head c.args.size is long c.if-head-ne1.false) (sym is.long)
          (head_is_first text head c.args.size is c.told-head long) found.0 found.2,
      found.1 ∙ sym is.long,
    )

pub returns-in-None : goal.returns-in-None
returns-in-None c = λ text is.
    let head = c.args.head.now in
    let long = c.if-size-lt-LEAST_LENGTH.false in
    front_damaged text head c.args.size (opens text head c.args.size is long c.if-head-ne1.false) (sym is.long)
    (head_is_first text head c.args.size is c.told-head long) (c.in-None.ensures.none (search rules))
