use Rattle.std.proofs.Common.{◌≤◌, arith}
use Rattle.foreign_files.proofs.Opened.{all_of, none_later}
use Rattle.foreign_files.proofs.open_files.newest.Goals as goal

pub returns-clause-none_later : goal.returns-clause-none_later
returns-clause-none_later c =
    let g = c.loop-file.newest.header.generation in
    let most = all_of (λ f. f.header.generation ≤ g) c.args.files.now c.loop-file.file-index (omega (arith, c.loop-file-test.false)) c.loop-file.invariant.most in
    λ image are. none_later image c.args.files.now g most are
