use Rattle.std.proofs.Common.{sym}
use Rattle.commands.proofs.importing.put_stream.Goals as goal

pub returns-in-File : goal.returns-in-File
returns-in-File g c = λ was chunk came.
    let put = c.import_file.ensures.was_imported was chunk came in
    (put.0, rw (c.in-File.is, sym c.requires.longest) put.1)

pub returns-in-Wrap : goal.returns-in-Wrap
returns-in-Wrap g c = λ was chunk came.
    let put = c.import_wrap.ensures.was_imported was chunk came in
    (put.0, rw (c.in-Wrap.is, sym c.requires.longest) put.1)
