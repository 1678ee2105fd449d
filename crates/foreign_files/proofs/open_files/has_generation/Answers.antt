use Rattle.std.proofs.Common.{◌≢◌, get_or, arith}
use Rattle.segment.specs.Seen.{header_seen}
use Rattle.foreign_files.specs.declared.open_files.OpenFile.{OpenFile}
use Rattle.foreign_files.specs.Disagreeing.{IsOpenFile}
use Rattle.foreign_files.proofs.Opened.{no_open_file, all_at, all_of, none_of}
use Rattle.foreign_files.proofs.open_files.has_generation.Goals as goal

pub returns-then-file-generation : goal.returns-then-file-generation
returns-then-file-generation c = λ image are none.
    let f : OpenFile = get_or c.args.files.now c.loop-file.file-index no_open_file in
    none f.file (header_seen f.header) (all_at (IsOpenFile image) c.args.files.now c.loop-file.file-index are.are c.loop-file-test.true) c.if-file-generation.true

pub returns : goal.returns
returns c = λ image are.
    none_of image c.args.files.now c.args.generation (all_of (λ f. f.header.generation ≢ c.args.generation) c.args.files.now c.loop-file.file-index (omega (arith, c.loop-file-test.false)) c.loop-file.invariant.others) are
