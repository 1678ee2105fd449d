use Rattle.std.proofs.Common.{◌≡◌, ◌∙◌, ap}
use Rattle.shown_listings.specs.declared.look.Look.{Look}
use Rattle.shown_listings.specs.declared.look.Rule.{Rule}
use Rattle.shown_listings.specs.declared.laid_out.RowsEnd.TheVariants as ends
use Rattle.shown_listings.specs.Listings.{ShowsBy, LaysOut, rule_from, may_end}
use Rattle.std.specs.Prelude.{None}
use Rattle.shown_listings.proofs.Laying.{lays_out}
use Rattle.shown_listings.proofs.listing.list_last.Goals as goal

abbrev rule_of : Look → Rule
rule_of look = look.rule

pub returns : goal.returns
returns g c =
    let contents = g.W.Write.contents in
    let layout = c.args.layout.now in
    let begun = c.new-laid.result in
    let made = c.new-laid.ensures in
    let call = c.list_shown-done in
    let listed = call.new.output in
    let whole = c.end-ended.result.0 ≡ ends.Written in
    let lists = ShowsBy (may_end c.args.shown.now.choice) (g.S.Listable.lists c.args.listing c.args.shown.now (g.I.Read.remaining c.args.input) call.result.1) call.result.0 in
    let laid : LaysOut (rule_from None layout) whole lists (contents c.args.output.now) (contents c.end-ended.result.1) =
    lays_out (rule_from None layout) whole lists begun.look.rule listed.look.rule (contents c.args.output.now) begun.written.start listed.written.start (contents c.end-ended.result.1) begun.lines.items begun.line.items listed.lines.items listed.line.items
    (ap rule_of made.look ∙ c.new-look.ensures) (made.start ∙ ap contents c.taken.ensures) made.lines made.line listed.lines_whole c.end-ended.ensures call.ensures in
    (c.end-ended.result.0, call.result.0, laid, c.told_with-told.ensures)
