use Rattle.std.proofs.Common.{◌≡◌, ◌∙◌, [], ap, drop, arith}
use Rattle.std.specs.Prelude.{None}
use Rattle.std.proofs.lemmas.List.{drop_all}
use Rattle.shown_listings.specs.declared.laid_out.LaidOut.{LaidOut}
use Rattle.shown_listings.specs.declared.look.Look.{Look}
use Rattle.shown_listings.specs.declared.look.Rule.{Rule}
use Rattle.shown_listings.specs.declared.laid_out.RowsEnd.TheVariants as ends
use Rattle.shown_listings.specs.Listings.{ShowsBy, LaysOut, rule_from, may_end}
use Rattle.shown_listings.proofs.HeldBack.{lays_ahead}
use Rattle.shown_listings.proofs.listing.list_ahead.Goals as goal

abbrev rule_of : Look → Rule
rule_of look = look.rule

pub returns : goal.returns
returns g c =
    let contents = g.W.Write.contents in
    let layout = c.args.layout.now in
    let made = c.new-laid.ensures in
    let ahead = c.new-ahead.result in
    let begun = c.new-ahead.ensures in
    let call = c.list_shown-done in
    let whole = c.end_rows-ended.result.0 ≡ ends.Written in
    let lists = ShowsBy (may_end c.args.shown.now.choice) (g.S.Listable.lists c.args.listing c.args.shown.now (g.I.Read.remaining c.args.input) call.result.1) call.result.0 in
    let laid : LaysOut (rule_from None layout) whole lists (contents c.args.output.now) (contents c.end_rows-ended.result.1) =
    lays_ahead (rule_from None layout) whole lists ahead.out.look.rule (contents c.args.output.now) ahead.out.written.start (contents c.end_rows-ended.result.1) _ ahead.out.lines.items ahead.out.line.items (drop ahead.taken ahead.held.items) c.requires
    (ap (λ (l : LaidOut g.row.W.Denot g.W.Write). l.look.rule) begun.out ∙ ap rule_of made.look ∙ c.new-look.ensures) (ap (λ (l : LaidOut g.row.W.Denot g.W.Write). l.written.start) begun.out ∙ made.start ∙ ap contents c.taken.ensures)
    (ap (λ (l : LaidOut g.row.W.Denot g.W.Write). l.lines.items) begun.out ∙ made.lines) (ap (λ (l : LaidOut g.row.W.Denot g.W.Write). l.line.items) begun.out ∙ made.line)
    (ap (λ l. drop ahead.taken l) begun.held ∙ drop_all ahead.taken [] (omega arith)) c.end_rows-ended.ensures call.ensures in
    (c.end_rows-ended.result.0, call.result.0, laid, c.told_with-told.ensures)
