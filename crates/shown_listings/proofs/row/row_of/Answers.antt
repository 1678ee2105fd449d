use Rattle.std.proofs.Common.{◌≡◌, ◌<◌, ◌++◌, ◌∷◌, [], ◌||◌, true, length, rules, map, ◌∙◌, ap, sym}
use Rattle.std.specs.Prelude.{is_some}
use Rattle.shown_listings.specs.Rows.{unfed_byte}
use Rattle.shown_listings.proofs.RowLemmas.{cut-may, row-made}
use Rattle.shown_listings.proofs.row.row_of.Goals as goal

pub returns : goal.returns
returns c =
    let room = c.args.room in
    let parts = c.args.parts in
    let text = parts.text.now in
    let shown = c.before_in.result in
    let count = c.front_of-count.result in
    let put = c.in_ok-put_text.ensures in
    let cut = is_some room.bytes || is_some room.columns in
    let same : (is_some shown.2.bytes || is_some shown.2.columns) ≡ cut = ap (λ bytes. is_some bytes || is_some shown.2.columns) c.before_in.ensures.bytes ∙ ap (λ b. is_some room.bytes || b) c.before_in.ensures.columns in
    let may : count < length text → cut ≡ true = λ less. sym same ∙ cut-may shown.2.bytes shown.2.columns count (length text) c.front_of-count.ensures.whole less in
    let number : c.put_beside.new.row.items ≡ map unfed_byte shown.0.now = c.in_ok-put_beside.ensures ∙ ap (λ l. l ++ map unfed_byte shown.0.now) c.in_ok-row.ensures.items in
    let colour = c.in_ok-put_beside-2.ensures ∙ ap (λ l. l ++ map unfed_byte parts.colour.now) number in
    let before = c.in_ok-put_beside-3.ensures ∙ ap (λ l. l ++ map unfed_byte shown.1.now) colour in
    let last : c.push.new.self.items ≡ c.put_beside-4.new.row.items ++ 10 ∷ [] = search rules in
    row-made cut text shown.0.now parts.colour.now shown.1.now put.0 parts.after.now c.push.new.self.items (put.1 cut may)
    (last ∙ ap (λ l. l ++ 10 ∷ []) (c.in_ok-put_beside-4.ensures ∙ ap (λ l. l ++ map unfed_byte parts.after.now) (put.2 ∙ ap (λ l. l ++ put.0) before)))
