use Rattle.std.proofs.Common.{[], subst}
use Rattle.import.specs.Incoming.{outside}
use Rattle.trace_reader.specs.Observing.{Observations}
use Rattle.shown_listings.specs.Listings.{Shows}
use Rattle.commands.specs.Serving.{Does}
use Rattle.commands.specs.declared.files.Files.{Files}
use Rattle.commands.specs.declared.serving.Task.{Task}
use Rattle.commands.proofs.serving.show_all.Goals as goal

pub returns : goal.returns
returns g c =
    let contents = g.W.Write.contents in
    let had = g.I.Read.remaining c.args.input in
    let shown = c.args.shown in
    let listing = c.listing_of-listing.result in
    let made = c.listing_of-listing.ensures in
    let call = c.show in
    let left = call.result.1 in
    let P : Task → Files → Observations → Type 0 = λ task files notes. Shows shown (Does task shown files (outside had 0 notes) left.files left.observed.notes) call.result.0 (contents c.args.output.now) (contents call.new.output) in
    subst (λ task. P task c.args.files []) made.task (subst (λ files. P listing.task files []) made.files (subst (λ notes. P listing.task listing.files notes) made.unobserved call.ensures))
