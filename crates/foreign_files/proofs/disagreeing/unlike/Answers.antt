use Rattle.std.proofs.Common.{◌≡◌, arith}
use Rattle.segment.specs.Seen.{header_seen}
use Rattle.foreign_files.proofs.Opened.{all_of}
use Rattle.foreign_files.proofs.Agreeing.{all_alike}
use Rattle.foreign_files.proofs.disagreeing.unlike.Goals as goal

pub returns-clause-told : goal.returns-clause-told
returns-clause-told c = λ image are.
    let first = c.in_ok-first.first.now in
    all_alike image c.args.files.now first are (all_of (λ f. (header_seen first.header).spec ≡ (header_seen f.header).spec) c.args.files.now c.loop-file.file-index (omega (arith, c.loop-file-test.false)) c.loop-file.invariant.alike)
