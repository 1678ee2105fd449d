use Rattle.std.proofs.KnownBytes.{Keeps-refl}
use Rattle.std.specs.Io.Chain.{chain_first, chain_second}
use Rattle.std.specs.Io.Cursor.{cursor_inner}
use Rattle.commands.specs.declared.serving.Served.{Served}
use Rattle.prepared_requests.specs.AheadImport.{no_files, unread}
use Rattle.prepared_requests.proofs.AheadImports.{imported_by}
use Rattle.prepared_requests.proofs.ahead_import.import_files.Goals as goal

pub returns-in-Err : goal.returns-in-Err
returns-in-Err g c = no_files _ c.in-Err.ensures.refused (Keeps-refl _)

pub returns-in-Err-begin_import : goal.returns-in-Err-begin_import
returns-in-Err-begin_import g c = unread _ _ c.in-Ok.ensures.made c.in-Err-begin_import.ensures.unread (Keeps-refl _)

pub returns : goal.returns
returns g c =
    let contents = g.W.Write.contents in
    let begun = c.in-Ok-begin_import.begun in
    let begins = c.in-Ok-begin_import.ensures in
    let call = c.do_over-done in
    let left : Served = record { files = call.new.files; observed = call.result.1 } in
    imported_by g.world' c.args.wanted c.args.rules begun.0 c.args.shown.now (g.I.Read.remaining c.args.input) _ (g.I.Read.remaining (chain_second begun.1))
    (contents c.args.output.now) (contents call.new.output) (cursor_inner (chain_first begun.1)).items call.result.0 c.in-Ok.files left c.console_for-console.result.observed.notes
    c.in-Ok.ensures.made begins.begins begins.joined begins.bytes c.console_for-console.ensures call.ensures
