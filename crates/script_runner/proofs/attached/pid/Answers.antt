use Rattle.std.proofs.Common.{◌<◌, ◌≤◌, length, codes, Err, lit≤, ◌∙◌, ap, arith}
use Rattle.std.specs.Str.{chars}
use Rattle.script_runner.proofs.attached.pid.Goals as goal

-- the node's name fits an atom
node_fits : length (chars (codes "nonode@nohost")) ≤ 255
unfolding chars
node_fits = lit≤ tt

pub unreachable-requires : goal.unreachable-requires
unreachable-requires c =
    let long : 255 < length (chars (codes "nonode@nohost")) = c.new.ensures.too_long.0 (c.in-Err-TooLong.is ∙ ap Err c.in-Err-TooLong.field-0-is) in
    omega (arith, long, node_fits)
