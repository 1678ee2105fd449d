use Rattle.std.proofs.Common.{◌≡◌, ◌∙◌, [], ap, subst}
use Rattle.std.specs.Prelude.{Some, Ok}
use Rattle.shown_listings.specs.declared.look.Look.{Look}
use Rattle.shown_listings.specs.declared.look.Rule.{Rule}
use Rattle.shown_listings.specs.declared.laid_out.RowsEnd.TheVariants as ends
use Rattle.shown_listings.specs.Listings.{Listing, LaysOut, rule_from}
use Rattle.shown_listings.proofs.Laying.{lays_out, laid_from}
use Rattle.shown_listings.proofs.listing.lay_out_from.Goals as goal

abbrev rule_of : Look → Rule
rule_of look = look.rule

pub returns-then-is_whole : goal.returns-then-is_whole
returns-then-is_whole g c =
    let contents = g.W.Write.contents in
    let rule = rule_from (Some c.args.first) c.args.layout.now in
    let call = c.list-done in
    let lists : Listing = g.S.Listable.lists c.args.listing c.args.shown.now (g.I.Read.remaining c.args.input) call.result.1 in
    let begun = c.new-laid.result in
    let made = c.new-laid.ensures in
    let listed = call.new.output in
    let text = c.end-ended.result.1.items in
    let ended = c.ended_well-is_whole.ensures c.if-is_whole.true in
    let whole = c.end-ended.result.0 ≡ ends.Written in
    let laid : LaysOut rule whole (lists call.result.0) (Some []) (Some text) =
    lays_out rule whole (lists call.result.0) begun.look.rule listed.look.rule (Some []) begun.written.start listed.written.start (Some text) begun.lines.items begun.line.items listed.lines.items listed.line.items
    (ap rule_of made.look ∙ c.new-look.ensures) (made.start ∙ ap (λ l. Some l) c.new.ensures.items) made.lines made.line listed.lines_whole c.end-ended.ensures call.ensures in
    let well : LaysOut rule whole (lists (Ok tt)) (Some []) (Some text) = subst (λ done. LaysOut rule whole (lists done) (Some []) (Some text)) ended.0 laid in
    let told = c.write_text.ensures.text in
    laid_from rule whole lists c.write_text.result (contents c.args.output.now) (contents c.write_text.new.output) text told.0 told.1 ended.1 told.2 told.3 told.4 c.write_text.ensures.err well
