use Rattle.std.proofs.Common.{◌≡◌, arith}
use Rattle.segment.specs.Seen.{header_seen}
use Rattle.recovery.specs.Stores.{file_for}
use Rattle.foreign_files.proofs.Opened.{all_of}
use Rattle.foreign_files.proofs.Agreeing.{all_placed}
use Rattle.foreign_files.proofs.disagreeing.misplaced.Goals as goal

pub returns-clause-told : goal.returns-clause-told
returns-clause-told c = λ image are.
    all_placed image c.args.files.now are (all_of (λ f. file_for (header_seen f.header).spec f.header.generation ≡ f.file) c.args.files.now c.loop-file.file-index (omega (arith, c.loop-file-test.false)) c.loop-file.invariant.placed)
