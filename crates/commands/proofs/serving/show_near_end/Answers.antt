use Rattle.std.proofs.Common.{[], Some, subst}
use Rattle.import.specs.Incoming.{outside}
use Rattle.trace_reader.specs.Observing.{Observations}
use Rattle.shown_listings.specs.Listings.{ShowsFrom}
use Rattle.commands.specs.Serving.{Does}
use Rattle.commands.specs.declared.files.Files.{Files}
use Rattle.commands.specs.declared.serving.Task.{Task}
use Rattle.commands.proofs.serving.show_near_end.Goals as goal

pub returns : goal.returns
returns g c =
    let contents = g.W.Write.contents in
    let near = c.args.near.now in
    let listing = c.listing_of-listing.result in
    let made = c.listing_of-listing.ensures in
    let call = c.show_from in
    let left = call.result.1 in
    let P : Task → Files → Observations → Type 0 =
    λ task files notes. ShowsFrom near.first near.later.layout (Does task near.later files (outside (Some []) 0 notes) left.files left.observed.notes) call.result.0 (contents c.args.output.now) (contents call.new.output) in
    subst (λ task. P task c.args.files []) made.task (subst (λ files. P listing.task files []) made.files (subst (λ notes. P listing.task listing.files notes) made.unobserved call.ensures))
